-- Of private contracts only: the lines of a text that is read part by part.
use Rattle.std.specs.Prelude.{◌≡◌, ℕ, ◌==◌, Bool, false, not, List, [], ◌∷◌, count_by}
use Rattle.smap_anywhere.specs.declared.line_ends.LinesRead.{LinesRead}

-- the text ends in a line without an LF
abbrev pub has_open_line : List ℕ → Bool
has_open_line [] = false
has_open_line (byte ∷ []) = not (byte == 10)
has_open_line (byte ∷ next ∷ text) = has_open_line (next ∷ text)

-- these are the lines of a text
pub record AreLinesOf (text : List ℕ) (lines : LinesRead) : Type 0 where
  pub ended : lines.ended ≡ count_by (λ byte. byte == 10) text
  pub is_open : lines.is_open ≡ has_open_line text
