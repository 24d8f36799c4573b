-- Laws of rewriting places over what a function gives: rewriting over maps that are looked for place by place comes to it, if each
-- that is found is the function's.
use Rattle.std.specs.Prelude.{◌≡◌, ◌+◌, ◌++◌, ℕ, Bool, true, false, List, [], ◌∷◌, Option}
use Rattle.std.specs.Prelude.{cond, filter, is_some, length, unwrap_or}
use Rattle.std.specs.List.{FoldsTo}
use Rattle.std.proofs.Common.{ap, append-nil, append_assoc, arith, subst, sym, ◌∙◌}
use Rattle.smap_io.specs.Device.{Takes}
use Rattle.smap_lines.specs.Editing.{DevicesSeen}
use Rattle.smap_lines.specs.Lines.{lines_with_ends}
use Rattle.smap_record.specs.Record.{MapRecord}
use Rattle.smap_trace.specs.UrlNotes.{NotesSeen}
use Rattle.smap_trace.specs.declared.outcome.Summary.{Summary}
use Rattle.smap_anywhere.specs.Parts.{Part, found, other}
use Rattle.smap_anywhere.specs.PartSteps.{PartStep, PlacesNow, places_start}
use Rattle.smap_anywhere.specs.Replaced.{Replacing, by_maps, is_place, is_replaced_by, part_text_by, parts_text_by}
use Rattle.smap_anywhere.specs.Anywhere.{PlacesAsked, RewritesAnywhere, RewritesAnywhereOver}
use Rattle.smap_anywhere.specs.AnywhereBy.{RewritesAnywhereBy, RewritesAnywhereUnder}

-- ---- over maps that are looked for place by place

one_more : {A : Type 0} (t : Bool) (x : A) (xs : List A) → length (cond t (x ∷ xs) xs) ≡ cond t 1 0 + length xs
one_more true x xs = omega arith
one_more false x xs = omega arith

-- `Good` says of the maps that no trouble came to them so far, and `Kept` that what they remember is right
module _ {M F : Type 0} (by : Replacing F) (Finds : M → (url : List ℕ) → M → Type 0) (under : M → (url : List ℕ) → F)
    (given : List ℕ → F) (Good Kept : M → Type 0)
    (good_back : (old new : M) (url : List ℕ) → Finds old url new → Good new → Good old)
    (finds_right : (old new : M) (url : List ℕ) → Finds old url new → Good new → Kept old → (under new url ≡ given url) × Kept new) where
  -- where no trouble came to the maps at the end, none came before
  part_back : (old new : PlacesNow M) (part : Part) → PartStep by Finds under old part new → Good new.maps → Good old.maps
  part_back old new (other byte) step good = subst (λ (now : PlacesNow M). Good now.maps) step good
  part_back old new (found place bytes) step good = good_back old.maps new.maps place.url step.finds good

  parts_back : (old new : PlacesNow M) (parts : List Part) → FoldsTo (PartStep by Finds under) old parts new → Good new.maps → Good old.maps
  parts_back old new [] steps good = subst (λ (now : PlacesNow M). Good now.maps) (sym steps) good
  parts_back old new (part ∷ parts) steps good =
      part_back old steps.0 part steps.1 (parts_back steps.0 new parts steps.2 good)

  -- the text that was made, and how many places were met, and were replaced
  abbrev Becomes : (old new : PlacesNow M) → (text : List ℕ) → (places mapped : ℕ) → Type 0
  Becomes old new text places mapped = (new.text ≡ old.text ++ text) × (new.places ≡ old.places + places) × (new.mapped ≡ old.mapped + mapped)

  part_is : (old new : PlacesNow M) (part : Part) → PartStep by Finds under old part new → Good new.maps → Kept old.maps →
      Becomes old new (part_text_by by given part) (cond (is_place part) 1 0) (cond (is_replaced_by by given part) 1 0) × Kept new.maps
  part_is old new (other byte) step good kept =
      let places : new.places ≡ old.places = ap (λ (now : PlacesNow M). now.places) step in
      let mapped : new.mapped ≡ old.mapped = ap (λ (now : PlacesNow M). now.mapped) step in (
        (ap (λ (now : PlacesNow M). now.text) step, omega (arith, places), omega (arith, mapped)),
        subst (λ (now : PlacesNow M). Kept now.maps) (sym step) kept,
      )
  part_is old new (found place bytes) step good kept =
      let right = finds_right old.maps new.maps place.url step.finds good kept in (
        (
          step.text_is ∙ ap (λ f. old.text ++ unwrap_or (by.text f place) bytes) right.0,
          step.places,
          step.mapped ∙ ap (λ f. old.mapped + cond (is_some (by.text f place)) 1 0) right.0,
        ),
        right.1,
      )

  parts_are : (old new : PlacesNow M) (parts : List Part) → FoldsTo (PartStep by Finds under) old parts new → Good new.maps → Kept old.maps →
      Becomes old new (parts_text_by by given parts) (length (filter is_place parts)) (length (filter (is_replaced_by by given) parts))
  parts_are old new [] steps good kept =
      let places : old.places ≡ new.places = ap (λ (now : PlacesNow M). now.places) steps in
      let mapped : old.mapped ≡ new.mapped = ap (λ (now : PlacesNow M). now.mapped) steps in
      (ap (λ (now : PlacesNow M). now.text) (sym steps) ∙ sym (append-nil old.text), omega (arith, places), omega (arith, mapped))
  parts_are old new (part ∷ parts) steps good kept =
      let one = part_is old steps.0 part steps.1 (parts_back steps.0 new parts steps.2 good) kept in
      let more = parts_are steps.0 new parts steps.2 good one.1 in (
        more.0 ∙ ap (λ l. l ++ parts_text_by by given parts) one.0.0 ∙ append_assoc old.text (part_text_by by given part) (parts_text_by by given parts),
        omega (arith, one.0.1, more.1, one_more (is_place part) part (filter is_place parts)),
        omega (arith, one.0.2, more.2, one_more (is_replaced_by by given part) part (filter (is_replaced_by by given) parts)),
      )

  -- rewriting over maps to which no trouble came, where what they remembered at first was right
  pub anywhere_under : (asked : PlacesAsked) (before after : DevicesSeen) (old new : M) (summary : Summary) (named others : NotesSeen)
      → RewritesAnywhereOver by Finds under asked before after old new summary named others → Good new → Kept old
      → RewritesAnywhereUnder by given asked.parts asked.most_bytes before after summary
  anywhere_under asked before after old new summary named others all good kept =
      let parts : List Part = asked.parts all.bytes in
      let are = parts_are (places_start old) all.last parts all.steps (subst Good (sym all.maps) good) kept in
      let places : all.last.places ≡ length (filter is_place parts) = omega (arith, are.1) in
      let mapped : all.last.mapped ≡ length (filter (is_replaced_by by given) parts) = omega (arith, are.2) in
      record {
        bytes = all.bytes;
        read = all.read;
        ended = all.ended;
        fits = all.fits;
        written = subst (λ l. Takes before.output.taken after.output.taken l) are.0 all.written;
        counted = all.counted
            ∙ (λ i. record { lines = length (lines_with_ends all.bytes); frames = places i; mapped = mapped i; hidden = 0 });
      }

-- the same where functions keep their names
module _ {M : Type 0} (Finds : M → (url : List ℕ) → M → Type 0) (under : M → (url : List ℕ) → Option MapRecord)
    (maps : List ℕ → Option MapRecord) (Good Kept : M → Type 0)
    (good_back : (old new : M) (url : List ℕ) → Finds old url new → Good new → Good old)
    (finds_right : (old new : M) (url : List ℕ) → Finds old url new → Good new → Kept old → (under new url ≡ maps url) × Kept new) where
  pub anywhere_by : (asked : PlacesAsked) (before after : DevicesSeen) (old new : M) (summary : Summary) (named others : NotesSeen)
      → RewritesAnywhere Finds under asked before after old new summary named others → Good new → Kept old
      → RewritesAnywhereBy maps asked.parts asked.most_bytes before after summary
  anywhere_by = anywhere_under by_maps Finds under maps Good Kept good_back finds_right
