-- Places in the order of their originals.
use Rattle.std.proofs.Common.{◌≡◌, ℕ, ◌+◌, ◌-◌, ◌<◌, ◌≤◌, suc, zero, List, [], ◌∷◌, length, Some, get_or, sym, ap, subst, ◌∙◌, arith, ⊎_elim}
use Rattle.std.specs.Prelude.{MatchOption, None, Option}
use Rattle.std.specs.List.{AllWithin, slice_get}
use Rattle.std.proofs.lemmas.Bool.{cases_lt}
use Rattle.std.specs.List.Sorted.{IsNonDecreasingBy}
use Rattle.std.proofs.lemmas.Option.{get_or_from_slice_get, slice_get_within}
use Rattle.smap_originals.specs.Originals.{original_order}
use Rattle.smap_originals.specs.declared.place.GeneratedPlace.{GeneratedPlace}

module _ (places : List GeneratedPlace) (i order : ℕ) (place : GeneratedPlace) (ordered : IsNonDecreasingBy original_order places) (there : slice_get places i ≡ Some place) where
  -- all up to one that stands before a number do
  pub front_before : original_order place < order → AllWithin (λ p. original_order p < order) places 0 (i + 1)
  front_before before = λ k d low high.
      let up = ordered k i d (omega arith) (slice_get_within places i place there) in
      omega (arith, up, ap original_order (get_or_from_slice_get places i place d there))

  -- and none from one on that does not
  pub back_not_before : order ≤ original_order place → AllWithin (λ p. order ≤ original_order p) places i (length places)
  back_not_before behind = λ k d low high.
      let up = ordered i k d low high in
      omega (arith, up, ap original_order (get_or_from_slice_get places i place d there))

-- ---- a run grows

module _ (places : List GeneratedPlace) (i order : ℕ) (place : GeneratedPlace) (there : slice_get places i ≡ Some place) (here : original_order place ≡ order) where
  here_at : (k : ℕ) (d : GeneratedPlace) → k ≡ i → original_order (get_or places k d) ≡ order
  here_at k d same = subst (λ n. original_order (get_or places n d) ≡ order) (sym same) (ap original_order (get_or_from_slice_get places i place d there) ∙ here)

  pub longer_front : (end : ℕ) → AllWithin (λ p. original_order p ≡ order) places (i + 1) end → AllWithin (λ p. original_order p ≡ order) places i end
  longer_front end run = λ k d low high. ⊎_elim (λ less. here_at k d (omega arith)) (λ more. run k d more high) (cases_lt k (i + 1))

  pub longer_back : (first : ℕ) → AllWithin (λ p. original_order p ≡ order) places first i → AllWithin (λ p. original_order p ≡ order) places first (i + 1)
  longer_back first run = λ k d low high. ⊎_elim (λ less. run k d low less) (λ more. here_at k d (omega arith)) (cases_lt k i)

-- ---- next to a split

pub just_passed : (places : List GeneratedPlace) (i : ℕ) (place : GeneratedPlace) → slice_get places i ≡ Some place
    → (0 < i + 1) × (slice_get places ((i + 1) - 1) ≡ Some place)
just_passed places i place there = let back : (i + 1) - 1 ≡ i = omega arith in (omega arith, ap (slice_get places) back ∙ there)

pub last_there : (places : List GeneratedPlace) (index : ℕ) (last : Option GeneratedPlace) (place : GeneratedPlace)
    → MatchOption last (index ≡ 0) (λ p. (0 < index) × (slice_get places (index - 1) ≡ Some p)) → last ≡ Some place
    → (0 < index) × (slice_get places (index - 1) ≡ Some place)
last_there places index None place is some = absurd (cc)
last_there places index (Some p) place is some = let same : p ≡ place = cc in (is.0, is.1 ∙ ap Some same)

pub no_last : (places : List GeneratedPlace) (index : ℕ) (last : Option GeneratedPlace)
    → MatchOption last (index ≡ 0) (λ p. (0 < index) × (slice_get places (index - 1) ≡ Some p)) → last ≡ None → index ≡ 0
no_last places index None is none = is
no_last places index (Some p) is none = absurd (cc)

pub no_next : (places : List GeneratedPlace) (index : ℕ) → slice_get places index ≡ None → length places ≤ index
no_next [] index none = omega arith
no_next (p ∷ places) zero none = absurd (cc)
no_next (p ∷ places) (suc index) none = let rest = no_next places index none in omega arith
