-- Places in a line, in a text and in the content of a source, from which a walk goes on.
use Rattle.std.specs.Prelude.{◌≡◌, ℕ, ◌+◌, List, Option, None, Some, slice_get}
use Rattle.std.specs.Str.{chars}
use Rattle.smap_fit.specs.Agreement.{original_lines}
use Rattle.smap_fit.specs.Standing.{left_on, standing_on}

-- the column is in a line of these characters behind this one, and before those that are left
pub record IsLeft (whole : List ℕ) (column : ℕ) (before : Option ℕ) (left : List ℕ) : Type 0 where
  pub standing : (units : ℕ) → standing_on None whole (column + units) ≡ standing_on before left units
  pub text : (units : ℕ) → left_on whole (column + units) ≡ left_on left units

-- the place is in a text of these lines: in the one of its number, if there is one, and before this text
abbrev pub IsPlace : List (List ℕ) → (line column : ℕ) → (before : Option ℕ) → (left : List ℕ) → Type 0
IsPlace lines line column before left = (whole : List ℕ) → slice_get lines line ≡ Some whole → IsLeft whole column before (chars left)

-- it is so in the content of a source, if it has one
abbrev pub IsOriginal : List (Option (List (List ℕ))) → (source line column : ℕ) → (before : Option ℕ) → (left : List ℕ) → Type 0
IsOriginal contents source line column before left = (lines : List (List ℕ)) → original_lines contents source ≡ Some lines → IsPlace lines line column before left
