-- What filters keep and tests find.
use Rattle.std.proofs.Common.{◌≡◌, ℕ, ◌+◌, ◌≤◌, suc, zero, Bool, true, false, cond, List, [], ◌∷◌, length, map, take, drop, refl, ap, ◌∙◌, arith, ⊎_elim}
use Rattle.std.specs.Prelude.{◌&&◌, ◌||◌, filter}
use Rattle.std.specs.List.{All, AllWithin, list_any}
use Rattle.std.proofs.lemmas.Bool.{cond-true, cond-false, or_cases, or_left, or_parts, or_right}
use Rattle.std.proofs.lemmas.List.Elements.{All-nil, All-cons, All-head, All-tail}

module _ {X : Type 0} where
  pub filter_alike : (p q : X → Bool) (xs : List X) → All (λ x. p x ≡ q x) xs → filter p xs ≡ filter q xs
  filter_alike p q [] all = refl
  filter_alike p q (x ∷ xs) all =
      let here : p x ≡ q x = All-head (λ y. p y ≡ q y) x xs all in
      let rest : filter p xs ≡ filter q xs = filter_alike p q xs (All-tail (λ y. p y ≡ q y) x xs all) in
      cc

  pub none_kept : (p : X → Bool) (xs : List X) → All (λ x. p x ≡ false) xs → filter p xs ≡ []
  none_kept p [] all = refl
  none_kept p (x ∷ xs) all =
      cond-false (p x) (x ∷ filter p xs) (filter p xs) (All-head (λ y. p y ≡ false) x xs all)
      ∙ none_kept p xs (All-tail (λ y. p y ≡ false) x xs all)

  pub filter_filter : (p q : X → Bool) (xs : List X) → filter p (filter q xs) ≡ filter (λ x. q x && p x) xs
  filter_filter p q [] = refl
  filter_filter p q (x ∷ xs) =
      let rest = filter_filter p q xs in
      elim (q x) as (λ b. filter p (cond b (x ∷ filter q xs) (filter q xs)) ≡ cond (b && p x) (x ∷ filter (λ y. q y && p y) xs) (filter (λ y. q y && p y) xs))
      [ true ↦ ap (λ l. cond (p x) (x ∷ l) l) rest | false ↦ rest ]

  -- ---- tests

  pub any_none : (p : X → Bool) (xs : List X) → list_any p xs ≡ false → All (λ x. p x ≡ false) xs
  any_none p [] none = All-nil (λ x. p x ≡ false)
  any_none p (x ∷ xs) none =
      let parts = or_parts (p x) (list_any p xs) none in
      All-cons (λ y. p y ≡ false) x xs parts.0 (any_none p xs parts.1)

  pub any_implied : (p q : X → Bool) → ((x : X) → p x ≡ true → q x ≡ true) → (xs : List X) → list_any p xs ≡ true → list_any q xs ≡ true
  any_implied p q so [] some = absurd (cc)
  any_implied p q so (x ∷ xs) some = ⊎_elim
      (λ here. or_left (q x) (list_any q xs) (so x here))
      (λ there. or_right (q x) (list_any q xs) (any_implied p q so xs there))
      (or_cases (p x) (list_any p xs) some)

  pub any_alike : (p q : X → Bool) → ((x : X) → p x ≡ q x) → (xs : List X) → list_any p xs ≡ list_any q xs
  any_alike p q same [] = refl
  any_alike p q same (x ∷ xs) =
      let here : p x ≡ q x = same x in
      let rest : list_any p xs ≡ list_any q xs = any_alike p q same xs in
      cc

  pub any_filter : (r p : X → Bool) (xs : List X) → list_any r (filter p xs) ≡ list_any (λ x. p x && r x) xs
  any_filter r p [] = refl
  any_filter r p (x ∷ xs) =
      let rest = any_filter r p xs in
      elim (p x) as (λ b. list_any r (cond b (x ∷ filter p xs) (filter p xs)) ≡ ((b && r x) || list_any (λ y. p y && r y) xs))
      [ true ↦ ap (λ b. r x || b) rest | false ↦ rest ]

  -- ---- a front, a middle and an end

  -- where all of the middle are kept and no others, the middle is what is kept
  pub middle_kept : (p : X → Bool) (xs : List X) (first n : ℕ) → first + n ≤ length xs → AllWithin (λ x. p x ≡ false) xs 0 first
      → AllWithin (λ x. p x ≡ true) xs first (first + n) → AllWithin (λ x. p x ≡ false) xs (first + n) (length xs)
      → filter p xs ≡ take n (drop first xs)
  middle_kept p [] first n within before middle behind =
      let none : 0 ≡ n = omega arith in
      ap (λ k. take k (drop first [])) none
  middle_kept p (x ∷ xs) (suc first) n within before middle behind =
      cond-false (p x) (x ∷ filter p xs) (filter p xs) (before 0 x (omega arith) (omega arith))
      ∙ middle_kept p xs first n (omega arith)
      (λ k d low high. before (suc k) d (omega arith) (omega arith))
      (λ k d low high. middle (suc k) d (omega arith) (omega arith))
      (λ k d low high. behind (suc k) d (omega arith) (omega arith))
  middle_kept p (x ∷ xs) zero (suc n) within before middle behind =
      cond-true (p x) (x ∷ filter p xs) (filter p xs) (middle 0 x (omega arith) (omega arith))
      ∙ ap (λ l. x ∷ l)
      (middle_kept p xs zero n (omega arith)
      (λ k d low high. absurd (omega arith))
      (λ k d low high. middle (suc k) d (omega arith) (omega arith))
      (λ k d low high. behind (suc k) d (omega arith) (omega arith)))
  middle_kept p (x ∷ xs) zero zero within before middle behind =
      cond-false (p x) (x ∷ filter p xs) (filter p xs) (behind 0 x (omega arith) (omega arith))
      ∙ middle_kept p xs zero zero (omega arith)
      (λ k d low high. absurd (omega arith))
      (λ k d low high. absurd (omega arith))
      (λ k d low high. behind (suc k) d (omega arith) (omega arith))

-- ---- over the values of a function

module _ {X Y : Type 0} (f : X → Y) (q : Y → Bool) where
  pub any_map : (xs : List X) → list_any q (map f xs) ≡ list_any (λ x. q (f x)) xs
  any_map [] = refl
  any_map (x ∷ xs) = ap (λ b. q (f x) || b) (any_map xs)

  pub filter_of_map : (xs : List X) → filter q (map f xs) ≡ map f (filter (λ x. q (f x)) xs)
  filter_of_map [] = refl
  filter_of_map (x ∷ xs) =
      let rest = filter_of_map xs in
      elim (q (f x)) as (λ b. cond b (f x ∷ filter q (map f xs)) (filter q (map f xs)) ≡ map f (cond b (x ∷ filter (λ y. q (f y)) xs) (filter (λ y. q (f y)) xs)))
      [ true ↦ ap (λ l. f x ∷ l) rest | false ↦ rest ]
