-- Lists that are read place by place: what proofs of several crates want, and the toolchain's library lacks.
use Rattle.std.proofs.Common.{◌≡◌, ℕ, ◌+◌, ◌<◌, suc, zero, List, [], ◌∷◌, ◌++◌, Option, Some, None, length, take, drop, get_or, refl, sym, ap, ◌∙◌, arith}
use Rattle.std.specs.List.{last_or, slice_get}
use Rattle.std.proofs.lemmas.List.{drop_more}

pub some_same : {A : Type 0} (a b : A) → Some a ≡ Some b → a ≡ b
some_same a b same = cc

-- there is an element at each place
pub there_is : {A : Type 0} (xs : List A) (i : ℕ) → i < length xs → (x : A) × (slice_get xs i ≡ Some x)
there_is [] i inside = absurd (omega arith)
there_is (x ∷ xs) zero inside = (x, refl)
there_is (x ∷ xs) (suc i) inside = there_is xs i (omega arith)

pub none_past : {A : Type 0} (xs : List A) (i : ℕ) → slice_get xs i ≡ None → i < length xs → ⊥
none_past [] i none inside = omega arith
none_past (x ∷ xs) zero none inside = cc
none_past (x ∷ xs) (suc i) none inside = none_past xs i none (omega arith)

-- the elements up to a place and the one at it
pub take_next : {A : Type 0} (xs : List A) (i : ℕ) (x : A) → slice_get xs i ≡ Some x → take (i + 1) xs ≡ take i xs ++ x ∷ []
take_next [] i x there = absurd (cc)
take_next (y ∷ xs) zero x there = let same : y ≡ x = cc in ap (λ y. y ∷ []) same
take_next (y ∷ xs) (suc i) x there = let n : suc i + 1 ≡ suc (i + 1) = omega arith
    in ap (λ n. take n (y ∷ xs)) n ∙ ap (λ front. y ∷ front) (take_next xs i x there)

-- the elements from a place on: the one at it, and those behind
pub drop_next : {A : Type 0} (xs : List A) (i : ℕ) (x : A) → slice_get xs i ≡ Some x → drop i xs ≡ x ∷ drop (i + 1) xs
drop_next [] i x there = absurd (cc)
drop_next (y ∷ xs) zero x there = let same : y ≡ x = cc in ap (λ y. y ∷ xs) same
drop_next (y ∷ xs) (suc i) x there = let n : suc i + 1 ≡ suc (i + 1) = omega arith in drop_next xs i x there ∙ ap (λ n. x ∷ drop n (y ∷ xs)) (sym n)

pub drop_at : {A : Type 0} (xs : List A) (i : ℕ) (x : A) → i < length xs → x ≡ get_or xs i x → drop i xs ≡ x ∷ drop (i + 1) xs
drop_at xs i x within is = drop_more xs i x within ∙ ap (λ y. y ∷ drop (i + 1) xs) (sym is)

-- the last of a list with one more is that one
pub last_or-push : {A : Type 0} (o : Option A) (xs : List A) (x : A) → last_or o (xs ++ x ∷ []) ≡ Some x
last_or-push o [] x = refl
last_or-push o (y ∷ xs) x = last_or-push (Some y) xs x

-- the element after a front
pub slice_get-after : {A : Type 0} (front : List A) (x : A) (after : List A) → slice_get (front ++ x ∷ after) (length front) ≡ Some x
slice_get-after [] x after = refl
slice_get-after (y ∷ front) x after = slice_get-after front x after

-- the last up to a place is the one at it
pub last_taken : {A : Type 0} (o : Option A) (xs : List A) (i : ℕ) (x : A) → slice_get xs i ≡ Some x → last_or o (take (i + 1) xs) ≡ Some x
last_taken o [] i x there = absurd (cc)
last_taken o (y ∷ xs) zero x there = there
last_taken o (y ∷ xs) (suc i) x there = let n : suc i + 1 ≡ suc (i + 1) = omega arith
    in ap (λ n. last_or o (take n (y ∷ xs))) n ∙ last_taken (Some y) xs i x there
