-- A text of n bytes has at most (n + 1) / 2 segments, and as many mappings as segments.
use Rattle.std.proofs.Common.{◌≡◌, ℕ, ◌+◌, ◌*◌, ◌≤◌, suc, zero, Bool, List, [], ◌∷◌, ◌++◌, length, filter, refl, sym, ap, ◌∙◌, arith, ⊎_elim}
use Rattle.std.proofs.Common.{length-append, Some}
use Rattle.std.specs.List.{slice_split, onto_first, slice_get}
use Rattle.std.proofs.lemmas.Bool.{cases_Bool, cond-true, cond-false}
use Rattle.std.proofs.lemmas.List.{length-map, take_all}
use Rattle.smap_mappings.specs.Segments.{is_nonempty, is_comma, is_semicolon, parts_from, segment_on, segments_on, segments_of_lines, segments_from}
use Rattle.smap_mappings.specs.Segments.{segments_of}
use Rattle.smap_mappings.specs.Mappings.{mappings_of}
use Rattle.smap_mappings.specs.Counts.{segment_count}
use Rattle.smap_mappings.specs.State.{IsNext}
use Rattle.smap_mappings.proofs.Checking.{DecodesUpTo}
use Rattle.smap_mappings.specs.declared.cursor.Cursor.{Cursor}
use Rattle.smap_mappings.specs.declared.cursor.TheConstants.Cursor.{START}
use Rattle.smap_mappings.specs.declared.mapping.Mapping.{Mapping}
use Rattle.smap_mappings.proofs.CheckLaws.{after_none}
use Rattle.smap_mappings.specs.Laws.Counts.{length-mappings_of}
use Rattle.smap_mappings.specs.Laws.Lists.{take_next}

-- the bytes of all parts, with one more for each part
spread : List (List ℕ) → ℕ
spread [] = 0
spread (part ∷ parts) = length part + 1 + spread parts

spread-onto_first : (x : ℕ) (parts : List (List ℕ)) (n : ℕ) → spread parts ≡ suc n → spread (onto_first x parts) ≡ suc (suc n)
unfolding spread
spread-onto_first x [] n is = absurd (cc)
spread-onto_first x (part ∷ parts) n is = omega (arith, is)

-- the separators count for the parts, but for the last
spread-split : (p : ℕ → Bool) (xs : List ℕ) → spread (slice_split p xs) ≡ suc (length xs)
unfolding spread
spread-split p [] = refl
spread-split p (x ∷ xs) =
    let more = spread-split p xs in
    ⊎_elim
    (λ yes. ap spread (cond-true _ _ _ yes) ∙ omega (arith, more))
    (λ no_cut. ap spread (cond-false _ _ _ no_cut) ∙ spread-onto_first x (slice_split p xs) (length xs) more)
    (cases_Bool (p x))

few_nonempty : (place : ℕ) (parts : List (List ℕ)) → 2 * length (filter is_nonempty (parts_from place parts)) ≤ spread parts
unfolding spread
few_nonempty place [] = omega arith
few_nonempty place ([] ∷ parts) = let more = few_nonempty (place + 0 + 1) parts in omega (arith, more)
few_nonempty place ((b ∷ bytes) ∷ parts) = let more = few_nonempty (place + suc (length bytes) + 1) parts in omega (arith, more)

few_on_line : (line place : ℕ) (bytes : List ℕ) → 2 * length (segments_on line place bytes) ≤ suc (length bytes)
unfolding segments_on
few_on_line line place bytes =
    omega (
      arith,
      few_nonempty place (slice_split is_comma bytes),
      spread-split is_comma bytes,
      length-map (filter is_nonempty (parts_from place (slice_split is_comma bytes))) (segment_on line),
    )

few_on_lines : (line place : ℕ) (lines : List (List ℕ)) → 2 * length (segments_of_lines line place lines) ≤ spread lines
unfolding spread
few_on_lines line place [] = omega arith
few_on_lines line place (bytes ∷ lines) =
    let rest = segments_of_lines (line + 1) (place + length bytes + 1) lines in
    omega (arith, few_on_line line place bytes, few_on_lines (line + 1) (place + length bytes + 1) lines, length-append (segments_on line place bytes) rest)

pub few_segments : (text : List ℕ) → 2 * segment_count text ≤ length text + 1
unfolding segments_of segments_from
few_segments text = omega (arith, few_on_lines 0 0 (slice_split is_semicolon text), spread-split is_semicolon text)

-- ---- as many mappings as segments

past_end : {X : Type 0} (xs : List X) (j : ℕ) (x : X) → j ≡ length xs → slice_get xs j ≡ Some x → ⊥
past_end [] j x all there = absurd (cc)
past_end (y ∷ xs) zero x all there = omega arith
past_end (y ∷ xs) (suc j) x all there = past_end xs j x (omega arith) there

-- after the last segment there is no mapping
pub none_past : (text : List ℕ) (j : ℕ) (mapping : Mapping) → j ≡ segment_count text → slice_get (mappings_of text) j ≡ Some mapping → ⊥
none_past text j mapping all there = past_end (mappings_of text) j mapping (all ∙ sym (length-mappings_of text)) there

pub decodes_start : (text : List ℕ) → DecodesUpTo text START []
decodes_start text = record { j = 0; after = after_none text; list_is = refl }

pub decodes_more : (text : List ℕ) (cursor after : Cursor) (list list' : List Mapping) (mapping : Mapping)
    (decodes : DecodesUpTo text cursor list) → IsNext text decodes.j mapping after → list' ≡ list ++ mapping ∷ [] → DecodesUpTo text after list'
decodes_more text cursor after list list' mapping decodes next pushed = record {
  j = decodes.j + 1;
  after = next.after;
  list_is = pushed ∙ ap (λ l. l ++ mapping ∷ []) decodes.list_is ∙ sym (take_next (mappings_of text) decodes.j mapping next.mapping_is);
}

pub decodes_all : (text : List ℕ) (cursor : Cursor) (list : List Mapping) (decodes : DecodesUpTo text cursor list)
    → decodes.j ≡ segment_count text → list ≡ mappings_of text
decodes_all text cursor list decodes at_end = decodes.list_is ∙ take_all decodes.j (mappings_of text) (omega (arith, length-mappings_of text))
