-- Where what two texts both begin with ends, and what those of a list begin with after one more.
use Rattle.std.proofs.Common.{◌≡◌, ◌≢◌, ◌==◌, ◌<◌, ◌≤◌, ◌⊎◌, inl, inr, ℕ, zero, suc, List, [], ◌∷◌, Option, Some, get_or, length, map, take, refl, sym}
use Rattle.std.proofs.Common.{ap, ◌∙◌, arith}
use Rattle.std.proofs.lemmas.Bool.{cond-false, cond-true, eq-eqb, eqb-true, false_from_ne_true}
use Rattle.smap_locations.specs.Common.{common_after, common_front, common_with}

-- so many bytes are the same, and no more: one text ends there, or the next bytes differ
pub front_is : (one other : List ℕ) (count : ℕ) → ((k : ℕ) → k < count → get_or one k 0 ≡ get_or other k 0) → count ≤ length one → count ≤ length other
    → (length one ≤ count) ⊎ ((length other ≤ count) ⊎ (get_or one count 0 ≢ get_or other count 0)) → take count one ≡ common_front one other
front_is [] other zero same in_one in_other end = refl
front_is [] other (suc count) same in_one in_other end = absurd (omega (arith, in_one))
front_is (x ∷ one) [] zero same in_one in_other end = refl
front_is (x ∷ one) [] (suc count) same in_one in_other end = absurd (omega (arith, in_other))
front_is (x ∷ one) (y ∷ other) zero same in_one in_other (inl ended) = absurd (omega (arith, ended))
front_is (x ∷ one) (y ∷ other) zero same in_one in_other (inr (inl ended)) = absurd (omega (arith, ended))
front_is (x ∷ one) (y ∷ other) zero same in_one in_other (inr (inr differ)) =
    sym (cond-false (x == y) (x ∷ common_front one other) [] (false_from_ne_true (x == y) (λ is. differ (eqb-true x y is))))
front_is (x ∷ one) (y ∷ other) (suc count) same in_one in_other end =
    ap (λ l. x ∷ l) (front_is one other count (λ k below. same (suc k) (omega (arith, below))) (omega (arith, in_one)) (omega (arith, in_other)) (next end))
    ∙ sym (cond-true (x == y) (x ∷ common_front one other) [] (eq-eqb x y (same 0 (omega arith))))
  where
    next : (length (x ∷ one) ≤ suc count) ⊎ ((length (y ∷ other) ≤ suc count) ⊎ (get_or one count 0 ≢ get_or other count 0))
        → (length one ≤ count) ⊎ ((length other ≤ count) ⊎ (get_or one count 0 ≢ get_or other count 0))
    next (inl ended) = inl (omega (arith, ended))
    next (inr (inl ended)) = inr (inl (omega (arith, ended)))
    next (inr (inr differ)) = inr (inr differ)

pub one_more : {K : Type 0} (text : K → List ℕ) (common : Option (List ℕ)) (keys rest : List K) (k : K) (front : List ℕ) → keys ≡ k ∷ rest
    → front ≡ common_with common (text k) → common_after (Some front) (map text rest) ≡ common_after common (map text keys)
one_more text common keys rest k front keys_are front_is = ap (λ front. common_after (Some front) (map text rest)) front_is ∙ sym (ap (λ keys. common_after common (map text keys)) keys_are)
