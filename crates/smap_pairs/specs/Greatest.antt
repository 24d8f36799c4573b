-- The greatest number that passes a test, and the greatest of what numbers have.
use Rattle.std.specs.Prelude.{ℕ, zero, suc, Bool, if◌then◌else◌, max}

-- the greatest number from 1 to another that passes a test, and 0 where none does
abbrev pub greatest : (test : ℕ → Bool) → (most : ℕ) → ℕ
greatest test zero = 0
greatest test (suc n) = if test (suc n) then suc n else greatest test n

-- the greatest of what the numbers below one have, 0 where there is none
abbrev pub most_below : (has : ℕ → ℕ) → (end : ℕ) → ℕ
most_below has zero = 0
most_below has (suc n) = max (has n) (most_below has n)
