-- Counts, with some bytes more.
use Rattle.std.proofs.Common.{◌≡◌, ◌<◌, ◌≤◌, ◌+◌, ◌≢◌, ℕ, zero, suc, eqb, cond, List, length, Option, Some, None, refl, sym, ap, subst, ◌∙◌, arith, ⊎_elim}
use Rattle.std.specs.Prelude.{IfSome, slice_index, sum}
use Rattle.std.proofs.Math.ListN.{replicate}
use Rattle.std.proofs.lemmas.Bool.{cases_Bool, cond-true, cond-false, eqb-true, eqb-false}
use Rattle.std.proofs.lemmas.List.{get_or-set_same, get_or-set_other, length-set}
use Rattle.std.proofs.lemmas.List.Sums.{get_or-le-sum_by, sum_by-set}
use Rattle.std.proofs.lemmas.List.Folds.{sum_by-replicate}
use Rattle.smap_fit.specs.Private.Counts.{counts_after, one_count_after, unmapped_after}

-- the count of one source, as far as some more are its own
pub one_count : (counts : List ℕ) (t more s : ℕ) → t < length counts → slice_index (one_count_after counts t more) s ≡ slice_index counts s + cond (eqb t s) more 0
one_count counts t more s within = ⊎_elim
    (λ is. let same : t ≡ s = eqb-true t s is in
    subst (λ n. slice_index (one_count_after counts t more) n ≡ slice_index counts n + cond (eqb t s) more 0) same
    (get_or-set_same counts t (slice_index counts t + more) 0 within ∙ ap (λ n. slice_index counts t + n) (sym (cond-true (eqb t s) more 0 is))))
    (λ other. let apart : s ≢ t = λ e. eqb-false t s other (sym e) in
    let none : cond (eqb t s) more 0 ≡ 0 = cond-false (eqb t s) more 0 other in
    get_or-set_other counts t s (slice_index counts t + more) 0 apart ∙ omega arith)
    (cases_Bool (eqb t s))

pub sum_of_one : (counts : List ℕ) (t more : ℕ) → t < length counts → sum (one_count_after counts t more) ≡ sum counts + more
sum_of_one counts t more within = let e = sum_by-set (λ (x : ℕ). x) counts t (slice_index counts t + more) 0 within in omega (arith, e)

pub at_most_sum : (counts : List ℕ) (t : ℕ) → t < length counts → slice_index counts t ≤ sum counts
at_most_sum counts t within = get_or-le-sum_by (λ (x : ℕ). x) counts t 0 within

pub sum_after : (counts : List ℕ) (unmapped more : ℕ) (owner : Option ℕ) → IfSome owner (λ s. s < length counts)
    → sum (counts_after counts owner more) + unmapped_after unmapped owner more ≡ sum counts + unmapped + more
sum_after counts unmapped more None within = omega arith
sum_after counts unmapped more (Some s) within = let e = sum_of_one counts s more within in omega (arith, e)

pub length_after : (counts : List ℕ) (more : ℕ) (owner : Option ℕ) → length (counts_after counts owner more) ≡ length counts
length_after counts more None = refl
length_after counts more (Some s) = length-set counts s (slice_index counts s + more)

-- ---- no counts

pub none_counted : (n s : ℕ) → slice_index (replicate n 0) s ≡ 0
none_counted zero s = refl
none_counted (suc n) zero = refl
none_counted (suc n) (suc s) = none_counted n s

pub sum_of_none : (n : ℕ) → sum (replicate n 0) ≡ 0
sum_of_none n = sum_by-replicate (λ (x : ℕ). x) n 0 ∙ omega arith
