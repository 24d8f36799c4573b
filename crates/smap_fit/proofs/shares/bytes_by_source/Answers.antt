use Rattle.std.proofs.Common.{◌≡◌, ◌+◌, ◌<◌, ℕ, [], ◌∷◌, length, Option, Some, None, inr, refl, sym, ap, subst, ◌∙◌, arith}
use Rattle.std.specs.Prelude.{All, IfSome, encode_utf8, slice_index, sum}
use Rattle.std.specs.Str.{IsUtf8, chars}
use Rattle.std.specs.Str.Iter.{chars_rest}
use Rattle.std.proofs.lemmas.List.{length-append, length-replicate}
use Rattle.std.proofs.lemmas.Str.{chars-nil, chars_past_char}
use Rattle.smap_index.specs.Parts.{joined}
use Rattle.smap_index.proofs.PositionLaws.{at_or_before}
use Rattle.smap_mappings.specs.Order.{IsAtOrBefore, IsInOrder}
use Rattle.smap_mappings.specs.Range.{position_at}
use Rattle.smap_mappings.specs.Within.{IsWithin}
use Rattle.smap_fit.specs.Lines.{code_of}
use Rattle.smap_fit.specs.Owners.{column_after, line_after, owned_bytes}
use Rattle.smap_fit.specs.Private.Counts.{counts_after, unmapped_after}
use Rattle.smap_fit.specs.Private.Left.{with_next}
use Rattle.smap_fit.proofs.OwnerLaws.{starts_alike, starts_in_order, starts_within}
use Rattle.smap_fit.proofs.ByteLaws.{behind, column_within, each_after, line_within, none_after, none_long, no_bytes, same_bytes}
use Rattle.smap_fit.proofs.CountedLaws.{length_after, none_counted, sum_after, sum_of_none}
use Rattle.smap_fit.proofs.shares.bytes_by_source.Goals as goal

pub loop-character-init : goal.loop-character-init
loop-character-init c =
    let all = joined c.args.map.now.stated.parts in
    let none = c.in_ok-no_counts.ensures in
    let left : c.new-owners.result.last ∷ with_next c.new-owners.result.next c.new-owners.result.rest ≡ position_at 0 0 ∷ all =
    ap (λ m. m ∷ with_next c.new-owners.result.next c.new-owners.result.rest) c.new-owners.ensures.last
    ∙ ap (λ l. position_at 0 0 ∷ l) (c.new-owners.ensures.list ∙ c.mappings.ensures.list) in
    let code = c.code_of-code.result.now in
    let text : chars_rest c.chars-rest.result ≡ code = c.chars-rest.ensures.rest in
    let alike : (owner : Option ℕ) → owned_bytes owner (c.new-owners.result.last ∷ with_next c.new-owners.result.next c.new-owners.result.rest) 0 0 (chars (chars_rest c.chars-rest.result))
    ≡ owned_bytes owner all 0 0 (code_of (chars c.args.generated.now)) =
    λ owner. ap (λ t. owned_bytes owner (c.new-owners.result.last ∷ with_next c.new-owners.result.next c.new-owners.result.rest) 0 0 (chars t)) text
    ∙ ap (λ l. owned_bytes owner l 0 0 (chars code)) left
    ∙ sym (same_bytes owner 0 0 all (position_at 0 0 ∷ all) (chars code) (starts_alike all))
    ∙ ap (owned_bytes owner all 0 0) c.code_of-code.ensures.code in
    let counted = λ (s : ℕ). ap (λ l. slice_index l s) none ∙ none_counted (length c.args.map.now.stated.sources) s in
    let summed = ap sum none ∙ sum_of_none (length c.args.map.now.stated.sources) in
    record {
      text = subst IsUtf8 (sym text) c.code_of-code.utf8;
      ordered = subst IsInOrder (sym left) (starts_in_order all c.mappings.ensures.ordered);
      last = subst (λ m. IsAtOrBefore m (position_at 0 0)) (sym c.new-owners.ensures.last) (inr (refl, omega arith));
      done = c.new-owners.ensures.done;
      within = subst (All (IsWithin (length c.args.map.now.stated.sources) (length c.args.map.now.stated.names))) (sym left)
          (starts_within (length c.args.map.now.stated.sources) (length c.args.map.now.stated.names) all c.mappings.ensures.within);
      places = ap length none ∙ length-replicate (length c.args.map.now.stated.sources) 0;
      each = λ source inside. omega (arith, counted source, alike (Some source));
      none = omega (arith, alike None, c.code_of-code.ensures.bytes);
      total = omega (arith, summed, ap length text, c.code_of-code.ensures.bytes);
      line = omega (arith, ap length text, c.code_of-code.ensures.bytes);
      column = omega (arith, ap length text, c.code_of-code.ensures.bytes);
    }

pub add-requires-clause-within : goal.add-requires-clause-within
add-requires-clause-within c =
    subst (λ n. IfSome c.owner_of-owner.result (λ source. source < n)) (sym c.loop-character.invariant.places)
    (c.owner_of-owner.ensures.named _ _ c.loop-character.invariant.within)

pub loop-character-preserved : goal.loop-character-preserved
loop-character-preserved c =
    let so_far = c.loop-character.invariant in
    let old = c.loop-character.owners.last ∷ with_next c.loop-character.owners.next c.loop-character.owners.rest in
    let new = c.owner_of-owner.new.self.last ∷ with_next c.owner_of-owner.new.self.next c.owner_of-owner.new.self.rest in
    let following = chars (chars_rest c.next.new.self) in
    let text : chars (chars_rest c.loop-character.rest) ≡ c.in-Some.character ∷ following =
    chars_past_char (chars_rest c.loop-character.rest) (chars_rest c.next.new.self) c.in-Some.character so_far.text c.in-Some.ensures.steps.0 in
    let is_line : c.place_after.result.0 ≡ line_after c.loop-character.line c.in-Some.character following =
    c.place_after.ensures.line ∙ ap (λ t. line_after c.loop-character.line c.in-Some.character (chars t)) c.as_str.ensures in
    let is_column : c.place_after.result.1 ≡ column_after c.loop-character.column c.in-Some.character following =
    c.place_after.ensures.column ∙ ap (λ t. column_after c.loop-character.column c.in-Some.character (chars t)) c.as_str.ensures in
    let inside = subst (λ n. IfSome c.owner_of-owner.result (λ source. source < n)) (sym so_far.places) (c.owner_of-owner.ensures.named _ _ so_far.within) in
    let is_bytes : c.len_utf8.result ≡ length (encode_utf8 c.in-Some.character) = c.len_utf8.ensures.len in
    let more = sum_after c.loop-character.bytes.sources.items c.loop-character.bytes.unmapped c.len_utf8.result c.owner_of-owner.result inside in
    let shorter : length (chars_rest c.loop-character.rest) ≡ length (encode_utf8 c.in-Some.character) + length (chars_rest c.next.new.self) =
    ap length c.in-Some.ensures.steps.0 ∙ length-append (encode_utf8 c.in-Some.character) (chars_rest c.next.new.self) in
    let moved : position_at c.place_after.result.0 c.place_after.result.1
    ≡ position_at (line_after c.loop-character.line c.in-Some.character following) (column_after c.loop-character.column c.in-Some.character following) =
    ap (λ n. position_at n c.place_after.result.1) is_line ∙ ap (position_at (line_after c.loop-character.line c.in-Some.character following)) is_column in
    let there : (owner : Option ℕ) → owned_bytes owner new c.place_after.result.0 c.place_after.result.1 following
    ≡ owned_bytes owner new (line_after c.loop-character.line c.in-Some.character following) (column_after c.loop-character.column c.in-Some.character following) following =
    λ owner. ap (λ n. owned_bytes owner new n c.place_after.result.1 following) is_line
    ∙ ap (λ n. owned_bytes owner new (line_after c.loop-character.line c.in-Some.character following) n following) is_column in
    record {
      text = subst IsUtf8 c.as_str.ensures c.as_str.utf8;
      ordered = c.owner_of-owner.ensures.ordered;
      last = at_or_before c.owner_of-owner.new.self.last (position_at c.loop-character.line c.loop-character.column) (position_at c.place_after.result.0 c.place_after.result.1)
          c.owner_of-owner.ensures.last
          (subst (IsAtOrBefore (position_at c.loop-character.line c.loop-character.column)) (sym moved)
          (behind c.loop-character.line c.loop-character.column c.in-Some.character following));
      done = c.owner_of-owner.ensures.done;
      within = c.owner_of-owner.ensures.within _ _ so_far.within;
      places = ap length c.add.ensures.sources ∙ length_after c.loop-character.bytes.sources.items c.len_utf8.result c.owner_of-owner.result ∙ so_far.places;
      each = λ source within. ap (λ l. slice_index l source + owned_bytes (Some source) new c.place_after.result.0 c.place_after.result.1 following) c.add.ensures.sources
          ∙ ap (λ n. slice_index (counts_after c.loop-character.bytes.sources.items c.owner_of-owner.result c.len_utf8.result) source + n) (there (Some source))
          ∙ each_after old new c.loop-character.line c.loop-character.column c.in-Some.character source following (chars (chars_rest c.loop-character.rest))
          c.loop-character.bytes.sources.items c.owner_of-owner.result c.len_utf8.result _
          c.owner_of-owner.ensures.alike text c.owner_of-owner.ensures.value inside is_bytes (so_far.each source within);
      none = ap (λ n. n + owned_bytes None new c.place_after.result.0 c.place_after.result.1 following) c.add.ensures.unmapped
          ∙ ap (λ n. unmapped_after c.loop-character.bytes.unmapped c.owner_of-owner.result c.len_utf8.result + n) (there None)
          ∙ none_after old new c.loop-character.line c.loop-character.column c.in-Some.character following (chars (chars_rest c.loop-character.rest))
          c.owner_of-owner.result c.loop-character.bytes.unmapped c.len_utf8.result _
          c.owner_of-owner.ensures.alike text c.owner_of-owner.ensures.value is_bytes so_far.none;
      total = omega (arith, ap sum c.add.ensures.sources, c.add.ensures.unmapped, more, shorter, is_bytes, so_far.total);
      line = omega (arith, is_line, line_within c.loop-character.line c.in-Some.character following c.len_utf8.result c.len_utf8.ensures.lower_bound, shorter, is_bytes, so_far.line);
      column = omega (arith, is_column, column_within c.loop-character.column c.in-Some.character following, shorter, so_far.column);
    }

pub returns : goal.returns
returns c =
    let so_far = c.loop-character.invariant in
    let end : length (chars_rest c.loop-character.rest) ≡ 0 = c.in_default.ensures.steps.0.0 in
    let nothing : chars (chars_rest c.loop-character.rest) ≡ [] = ap chars (none_long (chars_rest c.loop-character.rest) end) ∙ chars-nil in
    let owned : (owner : Option ℕ) → owned_bytes owner (c.loop-character.owners.last ∷ with_next c.loop-character.owners.next c.loop-character.owners.rest) c.loop-character.line
    c.loop-character.column (chars (chars_rest c.loop-character.rest)) ≡ 0 =
    λ owner. ap (owned_bytes owner (c.loop-character.owners.last ∷ with_next c.loop-character.owners.next c.loop-character.owners.rest) c.loop-character.line c.loop-character.column) nothing
    ∙ no_bytes owner _ _ _ in
    record {
      all = so_far.places;
      each = λ source within. omega (arith, owned (Some source), so_far.each source within);
      none = omega (arith, owned None, so_far.none);
      total = omega (arith, end, so_far.total);
    }
