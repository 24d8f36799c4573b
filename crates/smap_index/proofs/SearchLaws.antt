-- In a list in order the mappings that stand up to a bound are a front.
use Rattle.std.proofs.Common.{◌≡◌, ℕ, ◌+◌, ◌≤◌, suc, zero, true, false, List, [], ◌∷◌, length, Some, ap, ◌∙◌, arith, ⊎_elim}
use Rattle.std.specs.List.{slice_get}
use Rattle.std.proofs.lemmas.Bool.{cond-true, cond-false, cases_Bool}
use Rattle.std.specs.Prelude.{option_map}
use Rattle.std.proofs.lemmas.Option.{slice_get-map}
use Rattle.smap_mappings.specs.Order.{IsInOrder}
use Rattle.smap_mappings.specs.declared.mapping.Mapping.{Mapping}
use Rattle.smap_index.specs.Checkpoint.{mapping_of}
use Rattle.smap_index.specs.Private.Search.{mappings_at, is_up_to, front_up_to}
use Rattle.smap_index.specs.declared.bound.Bound.{Bound}
use Rattle.smap_index.specs.declared.checkpoint.Checkpoint.{Checkpoint}
use Rattle.smap_index.proofs.BoundLaws.{passes_back}
use Rattle.smap_mappings.specs.Laws.Order.{tail_in_order}

module _ (bound : Bound) where
  -- ---- the front

  pub head_passes : (a : Mapping) (xs : List Mapping) (i : ℕ) (m : Mapping) → IsInOrder (a ∷ xs) → slice_get xs i ≡ Some m
      → is_up_to bound m ≡ true → is_up_to bound a ≡ true
  head_passes a [] i m order there is = absurd (cc)
  head_passes a (b ∷ xs) zero m order there is = let e : b ≡ m = cc in passes_back bound a b order.0 (ap (is_up_to bound) e ∙ is)
  head_passes a (b ∷ xs) (suc i) m order there is = passes_back bound a b order.0 (head_passes b xs i m order.1 there is)

  -- a mapping that stands up to the bound is in the front
  pub in_front : (xs : List Mapping) (i : ℕ) (m : Mapping) → IsInOrder xs → slice_get xs i ≡ Some m → is_up_to bound m ≡ true → i + 1 ≤ front_up_to bound xs
  in_front [] i m order there is = absurd (cc)
  in_front (a ∷ xs) zero m order there is =
      let e : a ≡ m = cc in
      let counted = cond-true (is_up_to bound a) (1 + front_up_to bound xs) 0 (ap (is_up_to bound) e ∙ is) in
      omega arith
  in_front (a ∷ xs) (suc i) m order there is =
      let counted = cond-true (is_up_to bound a) (1 + front_up_to bound xs) 0 (head_passes a xs i m order there is) in
      let rest = in_front xs i m (tail_in_order a xs order) there is in
      omega arith

  -- one that does not ends the front
  pub ends_front : (xs : List Mapping) (i : ℕ) (m : Mapping) → slice_get xs i ≡ Some m → is_up_to bound m ≡ false → front_up_to bound xs ≤ i
  ends_front [] i m there is = absurd (cc)
  ends_front (a ∷ xs) zero m there is =
      let e : a ≡ m = cc in
      let counted = cond-false (is_up_to bound a) (1 + front_up_to bound xs) 0 (ap (is_up_to bound) e ∙ is) in
      omega arith
  ends_front (a ∷ xs) (suc i) m there is =
      let rest = ends_front xs i m there is in
      ⊎_elim
      (λ yes. let counted = cond-true (is_up_to bound a) (1 + front_up_to bound xs) 0 yes in omega arith)
      (λ no. let counted = cond-false (is_up_to bound a) (1 + front_up_to bound xs) 0 no in omega arith)
      (cases_Bool (is_up_to bound a))

-- ---- a table's mappings

pub front_within : (bound : Bound) (checkpoints : List Checkpoint) → front_up_to bound (mappings_at checkpoints) ≤ length checkpoints
front_within bound [] = omega arith
front_within bound (a ∷ checkpoints) =
    let rest = front_within bound checkpoints in
    ⊎_elim
    (λ passes. let counted = cond-true (is_up_to bound (mapping_of a)) (1 + front_up_to bound (mappings_at checkpoints)) 0 passes in omega arith)
    (λ stops. let counted = cond-false (is_up_to bound (mapping_of a)) (1 + front_up_to bound (mappings_at checkpoints)) 0 stops in omega arith)
    (cases_Bool (is_up_to bound (mapping_of a)))

pub read_mapping : (checkpoints : List Checkpoint) (i : ℕ) (checkpoint : Checkpoint) → slice_get checkpoints i ≡ Some checkpoint
    → slice_get (mappings_at checkpoints) i ≡ Some (mapping_of checkpoint)
read_mapping checkpoints i checkpoint there = slice_get-map mapping_of checkpoints i ∙ ap (option_map mapping_of) there
