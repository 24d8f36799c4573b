-- Where a line of a text begins (ECMAScript, line terminator sequences).
use Rattle.std.specs.Prelude.{◌≡◌, ℕ, List, [], ◌∷◌, ◌++◌, drop, take}
use Rattle.std.specs.Str.{IsCharBoundary, chars}
use Rattle.smap_text.specs.Lines.{lines_of}

-- the line of this number, from 0, begins at this byte: before it stand the lines before that one, each with its end, and no
-- more; and behind it stand that one and those after it
pub record BeginsAt (text : List ℕ) (line start : ℕ) : Type 0 where
  pub boundary : IsCharBoundary text start
  pub before : lines_of (chars (take start text)) ≡ take line (lines_of (chars text)) ++ [] ∷ []
  pub behind : lines_of (chars (drop start text)) ≡ drop line (lines_of (chars text))
