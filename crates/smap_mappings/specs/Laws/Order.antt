-- The order of mappings, as a test and as a fact.
use Rattle.std.proofs.Common.{◌≡◌, ◌<◌, ◌≤◌, false, eqb, ltb, List, [], ◌∷◌, arith, le-ltb, ltb-false, ne_eqb, ⊎_elim, inl, inr}
use Rattle.std.proofs.lemmas.Bool.{and_cases, and_left, and_right, cases_eq, eqb-false, or_from, or_parts}
use Rattle.smap_mappings.specs.Order.{IsAtOrBefore, IsInOrder}
use Rattle.smap_mappings.specs.Range.{stands_before}
use Rattle.smap_mappings.specs.declared.mapping.Mapping.{Mapping}

pub tail_in_order : (a : Mapping) (xs : List Mapping) → IsInOrder (a ∷ xs) → IsInOrder xs
tail_in_order a [] order = tt
tail_in_order a (b ∷ xs) order = order.1

pub line_at_most : (a b : Mapping) → IsAtOrBefore a b → a.line ≤ b.line
line_at_most a b order = ⊎_elim (λ (above : a.line < b.line). omega arith) (λ same. omega (arith, same.0)) order

-- ---- the test

pub from_not_before : (a b : Mapping) → IsAtOrBefore a b → stands_before b a ≡ false
from_not_before a b order =
    ⊎_elim
    (λ (above : a.line < b.line). or_from _ _ (le-ltb b.line a.line (omega arith)) (and_left _ _ (ne_eqb b.line a.line (λ e. absurd (omega arith)))))
    (λ (same : (a.line ≡ b.line) × (a.column ≤ b.column)). or_from _ _ (le-ltb b.line a.line (omega arith)) (and_right _ _ (le-ltb b.column a.column same.1)))
    order

pub not_before : (a b : Mapping) → stands_before b a ≡ false → IsAtOrBefore a b
not_before a b not_sorted =
    let parts = or_parts _ _ not_sorted in
    let rises : a.line ≤ b.line = ltb-false b.line a.line parts.0 in
    ⊎_elim
    (λ other. let differs = eqb-false b.line a.line other in inl (omega arith))
    (λ onward. ⊎_elim
    (λ (same : a.line ≡ b.line). inr (same, ltb-false b.column a.column onward))
    (λ (other : a.line ≡ b.line → ⊥). inl (omega arith))
    (cases_eq a.line b.line))
    (and_cases (eqb b.line a.line) (ltb b.column a.column) parts.1)
