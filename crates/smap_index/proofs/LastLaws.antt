-- The last mapping at the front of a list and the first after it, one mapping of the list after another.
use Rattle.std.proofs.Common.{◌≡◌, ℕ, ◌+◌, suc, List, [], ◌∷◌, ◌++◌, take, drop, Option, Some, false, true, refl, ap, sym, ◌∙◌}
use Rattle.std.proofs.Common.{one-add, ⊎_elim}
use Rattle.std.specs.List.{slice_get, last_or}
use Rattle.std.specs.Option.{option_or}
use Rattle.std.proofs.lemmas.Bool.{cond-true, cond-false, cases_Bool}
use Rattle.std.proofs.Math.Seq.{drop-length}
use Rattle.smap_mappings.specs.State.{IsNext}
use Rattle.smap_mappings.specs.Counts.{segment_count}
use Rattle.smap_mappings.specs.declared.cursor.Cursor.{Cursor}
use Rattle.smap_mappings.specs.declared.mapping.Mapping.{Mapping}
use Rattle.smap_index.specs.Parts.{placed_mapping, placed}
use Rattle.smap_index.specs.Private.Search.{is_up_to, front_up_to, last_from, first_past}
use Rattle.smap_index.specs.declared.bound.Bound.{Bound}
use Rattle.smap_index.specs.declared.part.Part.{Part}
use Rattle.smap_index.proofs.WalkLaws.{length-placed, placed_there}
use Rattle.smap_mappings.specs.Laws.Lists.{drop_next}

module _ (bound : Bound) where
  pub passes : (m : Mapping) (xs : List Mapping) → is_up_to bound m ≡ true → front_up_to bound (m ∷ xs) ≡ suc (front_up_to bound xs)
  passes m xs reached = cond-true (is_up_to bound m) (1 + front_up_to bound xs) 0 reached ∙ one-add (front_up_to bound xs)

  pub stops : (m : Mapping) (xs : List Mapping) → is_up_to bound m ≡ false → front_up_to bound (m ∷ xs) ≡ 0
  stops m xs past = cond-false (is_up_to bound m) (1 + front_up_to bound xs) 0 past

  pub last_passes : (e : Option Mapping) (m : Mapping) (xs : List Mapping) → is_up_to bound m ≡ true → last_from bound e (m ∷ xs) ≡ last_from bound (Some m) xs
  last_passes e m xs reached = ap (λ n. last_or e (take n (m ∷ xs))) (passes m xs reached)

  pub last_stops : (e : Option Mapping) (m : Mapping) (xs : List Mapping) → is_up_to bound m ≡ false → last_from bound e (m ∷ xs) ≡ e
  last_stops e m xs past = ap (λ n. last_or e (take n (m ∷ xs))) (stops m xs past)

  pub first_passes : (m : Mapping) (xs : List Mapping) → is_up_to bound m ≡ true → first_past bound (m ∷ xs) ≡ first_past bound xs
  first_passes m xs reached = ap (slice_get (m ∷ xs)) (passes m xs reached)

  pub first_stops : (m : Mapping) (xs : List Mapping) → is_up_to bound m ≡ false → first_past bound (m ∷ xs) ≡ Some m
  first_stops m xs past = ap (slice_get (m ∷ xs)) (stops m xs past)

  -- the first after the front of two lists is that of the former, if it has one
  pub first_of_both : (xs ys : List Mapping) → first_past bound (xs ++ ys) ≡ option_or (first_past bound xs) (first_past bound ys)
  first_of_both [] ys = refl
  first_of_both (x ∷ xs) ys =
      ⊎_elim
      (λ reached. first_passes x (xs ++ ys) reached ∙ first_of_both xs ys ∙ ap (λ o. option_or o (first_past bound ys)) (sym (first_passes x xs reached)))
      (λ past. first_stops x (xs ++ ys) past ∙ ap (λ o. option_or o (first_past bound ys)) (sym (first_stops x xs past)))
      (cases_Bool (is_up_to bound x))

-- the mapping of the next segment is the first that is left
pub next_left : (part : Part) (n : ℕ) (m : Mapping) (after : Cursor) → IsNext part.text n m after
    → drop n (placed part) ≡ placed_mapping part m ∷ drop (n + 1) (placed part)
unfolding placed
next_left part n m after next =
    drop_next (placed part) n (placed_mapping part m)
    (placed_there part n m next.mapping_is)

-- after the last segment none is left
pub none_left : (part : Part) (n : ℕ) → n ≡ segment_count part.text → drop n (placed part) ≡ []
none_left part n all = ap (λ n. drop n (placed part)) (all ∙ sym (length-placed part)) ∙ drop-length (placed part)
