-- Sums as far as 64 bits count, and sums over lists that are gone through one by one.
use Rattle.std.proofs.Common.{◌≡◌, ◌∙◌, ◌+◌, ◌*◌, ◌-◌, ◌^◌, ◌≤◌, ℕ, List, None, Some, ap, arith, get_or, length, min, sym, take, ⊎_elim}
use Rattle.std.specs.List.{slice_get, sum_by}
use Rattle.std.proofs.lemmas.List.{take_all, take_more}
use Rattle.std.proofs.lemmas.List.Sums.{sum_by_push}
use Rattle.std.proofs.lemmas.Option.{get_or_from_slice_get, slice_get_cases, slice_get_within}
use Rattle.smap_c.specs.Size.{counted}

-- ---- as far as 64 bits count

pub counted_both : (a b : ℕ) → min (counted a + counted b) (2 ^ 64 - 1) ≡ counted (a + b)
counted_both a b = omega arith

pub counted_right : (a b : ℕ) → min (a + counted b) (2 ^ 64 - 1) ≡ counted (a + b)
counted_right a b = omega arith

-- the sum of two that are so counted, of a number and one, and of two numbers
pub joined : (a b x y sum : ℕ) → x ≡ counted a → y ≡ counted b → sum ≡ min (x + y) (2 ^ 64 - 1) → sum ≡ counted (a + b)
joined a b x y sum one other is = is ∙ (λ i. min (one i + other i) (2 ^ 64 - 1)) ∙ counted_both a b

pub joined_right : (a b x y sum : ℕ) → x ≡ a → y ≡ counted b → sum ≡ min (x + y) (2 ^ 64 - 1) → sum ≡ counted (a + b)
joined_right a b x y sum one other is = is ∙ (λ i. min (one i + other i) (2 ^ 64 - 1)) ∙ counted_right a b

pub added : (a b x y sum : ℕ) → x ≡ a → y ≡ b → sum ≡ min (x + y) (2 ^ 64 - 1) → sum ≡ counted (a + b)
added a b x y sum one other is = is ∙ (λ i. min (one i + other i) (2 ^ 64 - 1))

-- so many times as much
pub times_160 : (a x product : ℕ) → x ≡ counted a → product ≡ min (x * 160) (2 ^ 64 - 1) → product ≡ counted (a * 160)
times_160 a x product one is =
    let so : min (counted a * 160) (2 ^ 64 - 1) ≡ counted (a * 160) = omega arith in
    is ∙ ap (λ n. min (n * 160) (2 ^ 64 - 1)) one ∙ so

pub times : (a x k product : ℕ) → x ≡ a → product ≡ min (x * k) (2 ^ 64 - 1) → product ≡ counted (a * k)
times a x k product one is = is ∙ ap (λ n. min (n * k) (2 ^ 64 - 1)) one

-- ---- one by one

-- the sum of those up to this one
sum_more : {X : Type 0} (f : X → ℕ) (xs : List X) (i : ℕ) (x : X) → slice_get xs i ≡ Some x
    → sum_by f (take (i + 1) xs) ≡ sum_by f (take i xs) + f x
sum_more f xs i x is =
    ap (sum_by f) (take_more xs i x (slice_get_within xs i x is)) ∙ sum_by_push f (take i xs) (get_or xs i x)
    ∙ ap (λ y. sum_by f (take i xs) + f y) (get_or_from_slice_get xs i x x is)

pub counted_sum : {X : Type 0} (f : X → ℕ) (xs : List X) (i : ℕ) (x : X) (sum more : ℕ) → slice_get xs i ≡ Some x
    → sum ≡ counted (sum_by f (take i xs)) → more ≡ counted (f x)
    → min (sum + more) (2 ^ 64 - 1) ≡ counted (sum_by f (take (i + 1) xs))
counted_sum f xs i x sum more is so_far next =
    ap (λ s. min (s + more) (2 ^ 64 - 1)) so_far ∙ ap (λ m. min (counted (sum_by f (take i xs)) + m) (2 ^ 64 - 1)) next
    ∙ counted_both (sum_by f (take i xs)) (f x) ∙ ap counted (sym (sum_more f xs i x is))

pub counted_more : {X : Type 0} (f : X → ℕ) (xs : List X) (i : ℕ) (x : X) (sum : ℕ) → slice_get xs i ≡ Some x
    → sum ≡ counted (sum_by f (take i xs)) → min (sum + f x) (2 ^ 64 - 1) ≡ counted (sum_by f (take (i + 1) xs))
counted_more f xs i x sum is so_far =
    let so : min (counted (sum_by f (take i xs)) + f x) (2 ^ 64 - 1) ≡ counted (sum_by f (take i xs) + f x) = omega arith in
    ap (λ s. min (s + f x) (2 ^ 64 - 1)) so_far ∙ so ∙ ap counted (sym (sum_more f xs i x is))

-- where there is none of this number, all are in the sum
past : {X : Type 0} (xs : List X) (i : ℕ) → slice_get xs i ≡ None → length xs ≤ i
past xs i none =
    ⊎_elim (λ inside. let some : slice_get xs i ≡ Some inside.0 = inside.2 in absurd (cc)) (λ outside. outside.0) (slice_get_cases xs i).1

pub all_summed : {X : Type 0} (f : X → ℕ) (xs : List X) (i most : ℕ) → slice_get xs i ≡ None → i ≤ most
    → sum_by f (take i xs) ≡ sum_by f (take most xs)
all_summed f xs i most none within =
    let few : length xs ≤ i = past xs i none in
    let both : take i xs ≡ take most xs = take_all i xs few ∙ sym (take_all most xs (omega arith)) in
    ap (sum_by f) both
