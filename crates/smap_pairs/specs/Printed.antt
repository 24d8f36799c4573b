-- The numbers of a place, as they are printed.
use Rattle.std.specs.Prelude.{◌≡◌, ℕ, ◌+◌, false, List, ◌++◌, codes, length}
use Rattle.std.specs.Fmt.{decimal}
use Rattle.smap_lines.specs.Numbers.{IsPrinted}
use Rattle.smap_pairs.specs.Numbers.{has_digit}

-- a text begins with `:`, this line, `:` and this column, which are so many bytes, and no digit stands after them
pub record IsNumbers (text : List ℕ) (line column size : ℕ) : Type 0 where
  pub after : List ℕ
  pub joined : text ≡ codes ":" ++ decimal line ++ codes ":" ++ decimal column ++ after
  pub size_is : size ≡ length (decimal line) + length (decimal column) + 2
  pub line_printed : IsPrinted line
  pub column_printed : IsPrinted column
  pub ended : has_digit after ≡ false
