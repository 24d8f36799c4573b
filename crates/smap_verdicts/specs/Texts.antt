-- Texts that are made of pieces, and numbers in JSON.
use Rattle.std.specs.Prelude.{ℕ, List, [], ◌∷◌, ◌++◌}
use Rattle.serde_json.specs.Data.{Data, number, unsigned}

-- the pieces one after the other
abbrev pub text_from : List (List ℕ) → List ℕ
text_from [] = []
text_from (piece ∷ []) = piece
text_from (piece ∷ next ∷ pieces) = piece ++ text_from (next ∷ pieces)

-- a number in JSON
abbrev pub count : ℕ → Data
count n = number (unsigned n)
