-- A segment without a bad digit, whose numbers stand one after another.
use Rattle.std.specs.Prelude.{◌≡◌, ℕ, List, false}
use Rattle.smap_mappings.specs.Faults.{has_bad_digit, is_unended}

-- each byte is a digit, and the last ends a number
pub record IsClean (bytes : List ℕ) : Type 0 where
  pub digits : has_bad_digit bytes ≡ false
  pub ended : is_unended bytes ≡ false
