-- A line that is a position (this project's own grammar): blanks, a line, blanks or one `:` alone, a column, and blanks;
-- a CR may end it. Lines and columns count from 1, columns in UTF-16 code units.
use Rattle.std.specs.Prelude.{◌≡◌, ◌≢◌, ◌⊎◌, ℕ, List, [], ◌++◌, IsTrue, codes}
use Rattle.std.specs.Fmt.{decimal}
use Rattle.std.specs.List.{AllByRecursion}
use Rattle.smap_lines.specs.Bytes.{IsLineEnd, is_blank}
use Rattle.smap_lines.specs.Numbers.{IsPrinted}
use Rattle.smap_printing.specs.declared.printed_position.PrintedPosition.{PrintedPosition}

-- spaces and tabs
abbrev pub AreBlanks : List ℕ → Type 0
AreBlanks text = AllByRecursion (λ byte. IsTrue (is_blank byte)) text

-- what stands between a line and a column: one `:`, or blanks
abbrev pub IsSeparator : List ℕ → Type 0
IsSeparator between = (between ≡ codes ":") ⊎ ((between ≢ []) × AreBlanks between)

-- the line is that of this position
pub record IsPosition (line : List ℕ) (position : PrintedPosition) : Type 0 where
  pub before : List ℕ
  pub between : List ℕ
  pub after : List ℕ
  pub end : List ℕ
  pub joined : line ≡ before ++ (decimal position.line ++ (between ++ (decimal position.column ++ (after ++ end))))
  pub blank_before : AreBlanks before
  pub separates : IsSeparator between
  pub blank_after : AreBlanks after
  pub ends : IsLineEnd end
  pub line_printed : IsPrinted position.line
  pub column_printed : IsPrinted position.column
