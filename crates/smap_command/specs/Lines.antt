-- A line that is printed.
use Rattle.std.specs.Prelude.{ℕ, List, [], ◌∷◌, ◌++◌}

-- the pieces one after the other, and an LF
abbrev pub line_from : List (List ℕ) → List ℕ
line_from [] = 10 ∷ []
line_from (piece ∷ pieces) = piece ++ line_from pieces
