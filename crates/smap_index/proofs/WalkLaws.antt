-- A walk through a text takes one mapping more at each step.
use Rattle.std.proofs.Common.{◌≡◌, ℕ, ◌+◌, List, [], ◌∷◌, ◌++◌, ◌||◌, Bool, true, false, Some, None, take, suc, zero, length, refl}
use Rattle.std.proofs.Common.{arith, sym, ap, subst, ◌∙◌}
use Rattle.std.specs.Prelude.{option_map, IfSome}
use Rattle.std.specs.List.{last_or, list_any, slice_get}
use Rattle.std.proofs.lemmas.Bool.{or_parts, or_from}
use Rattle.std.proofs.lemmas.List.{length-map, take_all}
use Rattle.std.proofs.lemmas.List.Folds.{list_any-append}
use Rattle.std.proofs.lemmas.Option.{slice_get-map}
use Rattle.smap_mappings.specs.Counts.{segment_count}
use Rattle.smap_mappings.specs.Mappings.{mappings_of}
use Rattle.smap_mappings.specs.State.{IsAfter, IsMappingAt, IsNext}
use Rattle.smap_mappings.specs.declared.cursor.Cursor.{Cursor}
use Rattle.smap_mappings.specs.declared.mapping.Mapping.{Mapping}
use Rattle.smap_index.specs.Parts.{placed_mapping, placed}
use Rattle.smap_mappings.specs.Range.{is_mapping_past_limit}
use Rattle.smap_index.specs.declared.part.Part.{Part}
use Rattle.smap_mappings.specs.Laws.Lists.{last_or-push, take_next}
use Rattle.smap_mappings.specs.Laws.Counts.{length-mappings_of}

pub length-placed : (part : Part) → length (placed part) ≡ segment_count part.text
unfolding placed
length-placed part = length-map (mappings_of part.text) (placed_mapping part) ∙ length-mappings_of part.text

-- a mapping of a part's text stands in the part, at its place
pub placed_there : (part : Part) (j : ℕ) (m : Mapping) → slice_get (mappings_of part.text) j ≡ Some m → slice_get (placed part) j ≡ Some (placed_mapping part m)
unfolding placed
placed_there part j m there = slice_get-map (placed_mapping part) (mappings_of part.text) j ∙ ap (option_map (placed_mapping part)) there

-- after the last segment the whole lists are there
pub all_taken : (text : List ℕ) (j : ℕ) → j ≡ segment_count text → take j (mappings_of text) ≡ mappings_of text
all_taken text j all = take_all j (mappings_of text) (omega (arith, length-mappings_of text))

pub all_placed : (part : Part) (j : ℕ) → j ≡ segment_count part.text → take j (placed part) ≡ placed part
all_placed part j all = take_all j (placed part) (omega (arith, length-placed part))

-- before the first mapping there is no last
pub last_none : (j : ℕ) (list : List Mapping) (state : Cursor) → j ≡ 0 → IfSome (last_or None (take j list)) (IsMappingAt state)
last_none j list state none = subst (λ j. IfSome (last_or None (take j list)) (IsMappingAt state)) (sym none) tt

-- one test more, after others
or_more : (a b c : Bool) → (a || (b || (c || false))) ≡ ((a || b) || c)
or_more true b c = refl
or_more false true c = refl
or_more false false true = refl
or_more false false false = refl

-- before the first mapping no test has passed
or_none : (a : Bool) → (a || false) ≡ a
or_none true = refl
or_none false = refl

pub any_none : (test : Mapping → Bool) (offset : Bool) (j : ℕ) (list : List Mapping) → j ≡ 0 → offset ≡ (offset || list_any test (take j list))
any_none test offset j list none = sym (ap (λ j. offset || list_any test (take j list)) none ∙ or_none offset)

module _ (part : Part) (j n : ℕ) (m : Mapping) (after : Cursor) (next : IsNext part.text j m after) (counted : n ≡ j + 1) where
  pub after_next : (state : Cursor) → after ≡ state → IsAfter part.text n state
  after_next state is = subst (IsAfter part.text n) is (subst (λ n. IsAfter part.text n after) (sym counted) next.after)

  pub placed_next : take n (placed part) ≡ take j (placed part) ++ placed_mapping part m ∷ []
  placed_next =
      ap (λ n. take n (placed part)) counted
      ∙ take_next (placed part) j (placed_mapping part m)
      (placed_there part j m next.mapping_is)

  pub last_next : (state : Cursor) → after ≡ state → IsMappingAt after m → IfSome (last_or None (take n (mappings_of part.text))) (IsMappingAt state)
  last_next state same at =
      let list = mappings_of part.text in
      let last : last_or None (take n list) ≡ Some m =
      ap (λ n. last_or None (take n list)) counted ∙ ap (last_or None) (take_next list j m next.mapping_is) ∙ last_or-push None (take j list) m in
      subst (λ state. IfSome (last_or None (take n list)) (IsMappingAt state)) same (subst (λ last. IfSome last (IsMappingAt after)) (sym last) at)

  -- the placed mappings so far and one more, under any test
  pub any_next : (test : Mapping → Bool) (offset old new : Bool) → old ≡ (offset || list_any test (take j (placed part)))
      → new ≡ (old || test (placed_mapping part m)) → new ≡ (offset || list_any test (take n (placed part)))
  any_next test offset old new so_far is =
      is ∙ ap (λ b. b || test (placed_mapping part m)) so_far
      ∙ sym (ap (λ list. offset || list_any test list) placed_next
      ∙ ap (λ b. offset || b) (list_any-append test (take j (placed part)) (placed_mapping part m ∷ []))
      ∙ or_more offset (list_any test (take j (placed part))) (test (placed_mapping part m)))

  -- where no mapping so far is past the limit and this one is not, none is
  pub none_next : list_any is_mapping_past_limit (take j (placed part)) ≡ false → is_mapping_past_limit (placed_mapping part m) ≡ false
      → list_any is_mapping_past_limit (take n (placed part)) ≡ false
  none_next none within =
      ap (list_any is_mapping_past_limit) placed_next ∙ list_any-append is_mapping_past_limit (take j (placed part)) (placed_mapping part m ∷ [])
      ∙ or_from _ _ none (or_from _ _ within refl)

-- an element of a list in which none passes a test does not pass it
pub none_at : (test : Mapping → Bool) (list : List Mapping) (j : ℕ) (m : Mapping) → list_any test list ≡ false → slice_get list j ≡ Some m → test m ≡ false
none_at test [] j m none there = absurd (cc)
none_at test (x ∷ list) zero m none there = let e : x ≡ m = cc in sym (ap test e) ∙ (or_parts _ _ none).0
none_at test (x ∷ list) (suc j) m none there = none_at test list j m (or_parts _ _ none).1 there

-- where no mapping is past the limit, this one is not
pub in_range_at : (part : Part) (j : ℕ) (m : Mapping) → list_any is_mapping_past_limit (placed part) ≡ false
    → slice_get (mappings_of part.text) j ≡ Some m → is_mapping_past_limit (placed_mapping part m) ≡ false
in_range_at part j m none there = none_at is_mapping_past_limit (placed part) j (placed_mapping part m) none (placed_there part j m there)
