-- The order of positions, by line and then by column, as a test and as a fact.
use Rattle.std.proofs.Common.{◌≡◌, ◌<◌, ◌≤◌, true, ◌∙◌, arith, ⊎_elim, inl, inr, ◌⊎◌}
use Rattle.std.proofs.lemmas.Bool.{ltb-true, lt-ltb, eqb-true, eq-eqb, or_cases, or_left, or_right}
use Rattle.std.proofs.lemmas.Bool.{and_parts, and_from}
use Rattle.smap_mappings.specs.Order.{IsAtOrBefore}
use Rattle.smap_mappings.specs.Range.{stands_before}
use Rattle.smap_mappings.specs.declared.mapping.Mapping.{Mapping}

-- the first stands before the second
abbrev pub IsBefore : Mapping → Mapping → Type 0
IsBefore a b = (a.line < b.line) ⊎ ((a.line ≡ b.line) × (a.column < b.column))

-- ---- steps

module _ (a b c : Mapping) where
  -- on another line, or from column to column
  further : {P Q R : Type 0} → (P → Q → R) → (a.line < b.line) ⊎ ((a.line ≡ b.line) × P) → (b.line < c.line) ⊎ ((b.line ≡ c.line) × Q)
      → (a.line < c.line) ⊎ ((a.line ≡ c.line) × R)
  further columns first second =
      ⊎_elim
      (λ (above : a.line < b.line). inl (⊎_elim (λ (below : b.line < c.line). omega arith) (λ same. omega (arith, same.0)) second))
      (λ equal. ⊎_elim (λ (below : b.line < c.line). inl (omega (arith, equal.0))) (λ same. inr (equal.0 ∙ same.0, columns equal.1 same.1)) second)
      first

  pub at_or_before : IsAtOrBefore a b → IsAtOrBefore b c → IsAtOrBefore a c
  at_or_before = further (λ (left : a.column ≤ b.column) (right : b.column ≤ c.column). omega arith)

  pub before_through : IsAtOrBefore a b → IsBefore b c → IsBefore a c
  before_through = further (λ (left : a.column ≤ b.column) (right : b.column < c.column). omega arith)

  pub before_from : IsBefore a b → IsAtOrBefore b c → IsBefore a c
  before_from = further (λ (left : a.column < b.column) (right : b.column ≤ c.column). omega arith)

-- ---- the test

pub before : (a b : Mapping) → stands_before a b ≡ true → IsBefore a b
before a b is =
    ⊎_elim
    (λ above. inl (ltb-true _ _ above))
    (λ same. let parts = and_parts _ _ same in inr (eqb-true _ _ parts.0, ltb-true _ _ parts.1))
    (or_cases _ _ is)

module _ (a b : Mapping) where
  pub from_before : IsBefore a b → stands_before a b ≡ true
  from_before is =
      ⊎_elim
      (λ above. or_left _ _ (lt-ltb _ _ above))
      (λ same. or_right _ _ (and_from _ _ (eq-eqb _ _ same.0) (lt-ltb _ _ same.1)))
      is
