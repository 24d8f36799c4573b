-- Lines without what all URLs begin with have no places, and are put as they are.
use Rattle.std.proofs.Common.{◌≡◌, ◌+◌, ◌<◌, ◌≤◌, ℕ, Bool, true, false, List, [], ◌∷◌, ◌++◌, length, map, take, drop, get_or, Option, Some, None}
use Rattle.std.proofs.Common.{refl, sym, ap, subst, ◌∙◌, arith, append_assoc, length-append}
use Rattle.std.specs.Prelude.{IfSome, MatchOption}
use Rattle.std.specs.List.{flat_map}
use Rattle.std.proofs.lemmas.List.{get_or-append-add, get_or_append_left, length-take, take-append-drop, take-take}
use Rattle.memchr.specs.Find.{FindsNeedle, OccursAt}
use Rattle.smap_io.specs.Device.{SinkSeen}
use Rattle.smap_lines.specs.LineOutput.{FailsToPut, Puts}
use Rattle.smap_lines.specs.Lines.{IsWholeLines}
use Rattle.smap_lines.specs.declared.line_output.LineOutput.{LineOutput}
use Rattle.smap_pairs.specs.Chunks.{Cut, cut_bytes, cuts_from, cuts_of}
use Rattle.smap_pairs.specs.Chunks.Cut.{chunk, stays}
use Rattle.smap_pairs.specs.Known.{AllBegin, IsNowhereIn, UrlsKnown}
use Rattle.smap_pairs.specs.Laws.Chunks.{cuts_whole, lines_apart}
use Rattle.smap_pairs.proofs.FrontLaws.{no_place, occurs_within}
use Rattle.smap_trace.specs.NotesSeen.{notes_seen}
use Rattle.smap_anywhere.specs.Parts.{other}
use Rattle.smap_anywhere.specs.PartSteps.{MayBecomeBy}
use Rattle.smap_anywhere.specs.ChunkParts.{chunk_parts, cut_unknown, line_of, parts_by_spans, spans_of}
use Rattle.smap_anywhere.specs.NamedParts.{cut_parts_by, named_by_spans}
use Rattle.smap_anywhere.specs.Replaced.{Replacing}
use Rattle.smap_anywhere.specs.SeemingUrls.{urls_seeming}
use Rattle.smap_anywhere.specs.Private.ChunkWriter.{FailsToPutParts, IsCut, Passes, parts_behind}
use Rattle.smap_anywhere.specs.Private.PartsWriter.{AreNoted, Becomes}
use Rattle.smap_anywhere.specs.declared.chunk_writer.ChunkWriter.{ChunkWriter}
use Rattle.smap_anywhere.proofs.PassingLaws.{becomes_others, fails_with, may_others}

-- ---- a text without what all URLs begin with

-- what does not stand in a text stands in no part of it
nowhere_front : (one more part : List ℕ) → IsNowhereIn (one ++ more) part → IsNowhereIn one part
nowhere_front one more part none at occurs = none at (record {
  fits = omega (arith, occurs.fits, length-append one more);
  reads = λ j inside. get_or_append_left one more 0 (at + j) (omega (arith, inside, occurs.fits)) ∙ occurs.reads j inside;
})

nowhere_behind : (one more part : List ℕ) → IsNowhereIn (one ++ more) part → IsNowhereIn more part
nowhere_behind one more part none at occurs = none (length one + at) (record {
  fits = omega (arith, occurs.fits, length-append one more);
  reads = λ j inside.
      let there : length one + at + j ≡ length one + (at + j) = omega arith in
      ap (λ k. get_or (one ++ more) k 0) there ∙ get_or-append-add one more (at + j) 0 ∙ occurs.reads j inside;
})

nowhere_taken : (text part : List ℕ) (n : ℕ) → IsNowhereIn text part → IsNowhereIn (take n text) part
nowhere_taken text part n none = nowhere_front (take n text) (drop n text) part (subst (λ l. IsNowhereIn l part) (sym (take-append-drop n text)) none)

module _ (known : UrlsKnown) (front : List ℕ) (begin : AllBegin known front) where
  plain_chunk : (text : List ℕ) → IsNowhereIn text front → chunk_parts known text ≡ map other text
  unfolding chunk_parts
  plain_chunk text none = ap (parts_by_spans text 0) (no_place known front (line_of text) begin (nowhere_taken text front _ none))

  plain_named : (text : List ℕ) → IsNowhereIn text front → named_by_spans text 0 (spans_of known text) ≡ map other text
  plain_named text none = ap (named_by_spans text 0) (no_place known front (line_of text) begin (nowhere_taken text front _ none))

  plain_cut : (is_named : Bool) (cut : Cut) → IsNowhereIn (cut_bytes cut) front → cut_parts_by is_named known cut ≡ map other (cut_bytes cut)
  plain_cut false (chunk text) none = plain_chunk text none
  plain_cut false (stays byte) none = refl
  plain_cut true (chunk text) none = plain_named text none
  plain_cut true (stays byte) none = refl

  plain_cuts : (is_named : Bool) (cuts : List Cut) → IsNowhereIn (flat_map cut_bytes cuts) front
      → flat_map (cut_parts_by is_named known) cuts ≡ map other (flat_map cut_bytes cuts)
  plain_cuts is_named [] none = refl
  plain_cuts is_named (cut ∷ cuts) none =
      (λ i. plain_cut is_named cut (nowhere_front (cut_bytes cut) (flat_map cut_bytes cuts) front none) i
      ++ plain_cuts is_named cuts (nowhere_behind (cut_bytes cut) (flat_map cut_bytes cuts) front none) i)
      ∙ sym (map_both (cut_bytes cut) (flat_map cut_bytes cuts))
    where
      map_both : (one more : List ℕ) → map other (one ++ more) ≡ map other one ++ map other more
      map_both [] more = refl
      map_both (byte ∷ one) more = ap (λ l. other byte ∷ l) (map_both one more)

  pub plain_text : (is_named : Bool) (text : List ℕ) → IsNowhereIn text front → flat_map (cut_parts_by is_named known) (cuts_of text) ≡ map other text
  plain_text is_named text none =
      plain_cuts is_named (cuts_of text) (subst (λ l. IsNowhereIn l front) (sym (cuts_whole text)) none) ∙ ap (map other) (cuts_whole text)

-- it stands nowhere before the first place where it is found
nowhere_before : (text part : List ℕ) (found : ℕ) → 0 < length part → FindsNeedle text part 0 (Some found) → IsNowhereIn (take found text) part
nowhere_before text part found some first = λ at occurs.
    let less : at < found = omega (arith, occurs.fits, some, length-take found text) in
    let here : 0 + at ≡ at = omega arith in
    first.0.before at (omega arith) less (subst (OccursAt text part) here (occurs_within text part 0 found at occurs some))

-- lines before the first place have none
module _ (known : UrlsKnown) (text : List ℕ) (n : ℕ) where
  abbrev pub IsPlain : Type 0
  IsPlain = (is_named : Bool) → flat_map (cut_parts_by is_named known) (cuts_of (take n text)) ≡ map other (take n text)

  abbrev pub IsFrontFound : (front : Option (List ℕ)) → (found : Option ℕ) → Type 0
  IsFrontFound front found = MatchOption front (found ≡ Some 0) (λ front. FindsNeedle text front 0 found)

  pub plain_all : (front : Option (List ℕ)) → IfSome front (AllBegin known) → IsFrontFound front None → IsPlain
  plain_all None begin found is_named = absurd (cc)
  plain_all (Some front) begin none is_named =
      plain_text known front begin is_named (take n text)
      (nowhere_taken text front n (λ at occurs. none at (omega arith) (omega (arith, occurs.fits)) occurs))

  pub plain_before : (front : Option (List ℕ)) (at : ℕ) → n ≤ at → IfSome front (AllBegin known) → IsFrontFound front (Some at) → IsPlain
  unfolding cuts_from
  plain_before None at within begin found is_named =
      let first : at ≡ 0 = cc in
      let nothing : n ≡ 0 = omega (arith, within, first) in
      ap (λ k. flat_map (cut_parts_by is_named known) (cuts_of (take k text))) nothing ∙ ap (λ k. map other (take k text)) (sym nothing)
  plain_before (Some front) at within begin found is_named =
      let less : take n (take at text) ≡ take n text = take-take n at text within in
      plain_text known front begin is_named (take n text) (subst (λ l. IsNowhereIn l front) less
      (nowhere_taken (take at text) front n (nowhere_before text front at begin.some found)))

-- ---- lines that are put as they are

lines_cut : (is_last : Bool) (text : List ℕ) (count : ℕ) → count ≤ length text → IsWholeLines (take count text)
    → IsCut false false is_last text count (cuts_of (take count text))
lines_cut is_last text count within whole = record {
  within = within;
  bytes = cuts_whole (take count text);
  cut = λ later last.
      ap (λ l. cuts_of (l ++ later)) (sym (take-append-drop count text)) ∙ ap cuts_of (append_assoc (take count text) (drop count text) later)
      ∙ lines_apart (take count text) (drop count text ++ later) whole;
}

module _ {W : Type 0} (seen : W → SinkSeen) (is_named : Bool) (known : UrlsKnown) (before after : LineOutput W) (is_last : Bool) (text : List ℕ) (count : ℕ)
    (within : count ≤ length text) (whole : IsWholeLines (take count text))
    (plain : flat_map (cut_parts_by is_named known) (cuts_of (take count text)) ≡ map other (take count text)) where
  pub lines_pass : {M K F : Type 0} (by : Replacing F) (Finds : M → (url : List ℕ) → M → Type 0) (under : M → (url : List ℕ) → F) (old : ChunkWriter M K)
      → old.is_broken ≡ false → old.writer.is_noted ≡ false → Puts seen before after (take count text)
      → Passes by Finds under seen is_named known old old before after is_last text count
  lines_pass by Finds under old whole_chunk unnoted puts = record {
    cuts = cuts_of (take count text);
    cut = subst (λ b. IsCut b b is_last text count (cuts_of (take count text))) (sym whole_chunk) (lines_cut is_last text count within whole);
    put = record {
      text = take count text;
      become = subst (λ parts. Becomes by Finds under old.writer old.writer parts (take count text)) (sym plain) (becomes_others by Finds under old.writer (take count text));
      others = subst (λ on. AreNoted on (flat_map (cut_unknown known urls_seeming) (cuts_of (take count text))) (notes_seen old.others.now) (notes_seen old.others.now))
          (sym unnoted) refl;
      puts = puts;
    };
    few_places = omega arith;
    few_mapped = omega arith;
  }

  pub lines_fail : {F : Type 0} (by : Replacing F) → (Allows : (url : List ℕ) → F → Type 0) → ((url : List ℕ) → (one : F) × Allows url one)
      → (is_broken : Bool) → is_broken ≡ false → FailsToPut seen before after (take count text)
      → FailsToPutParts by Allows seen before after (parts_behind is_named known is_broken text)
  lines_fail by Allows some is_broken whole_chunk fails =
      subst (λ b. FailsToPutParts by Allows seen before after (parts_behind is_named known b text)) (sym whole_chunk)
      (fails_with by Allows some seen is_named known before after false false is_last text count (cuts_of (take count text)) (lines_cut is_last text count within whole) (record {
        text = take count text;
        may = subst (λ parts. MayBecomeBy by Allows parts (take count text)) (sym plain) (may_others by Allows (take count text));
        fails = fails;
      }))
