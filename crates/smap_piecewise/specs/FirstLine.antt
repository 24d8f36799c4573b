-- The first line of a text (this project's own).
use Rattle.std.specs.Prelude.{ℕ, ◌==◌, List, [], ◌∷◌, if◌then◌else◌}

-- without its LF
abbrev pub line_at : (text : List ℕ) → List ℕ
line_at [] = []
line_at (byte ∷ text) = if byte == 10 then [] else byte ∷ line_at text

-- with it, where it has one
abbrev pub through_line : (text : List ℕ) → List ℕ
through_line [] = []
through_line (byte ∷ text) = byte ∷ (if byte == 10 then [] else through_line text)

-- what stands behind it
abbrev pub behind_line : (text : List ℕ) → List ℕ
behind_line [] = []
behind_line (byte ∷ text) = if byte == 10 then text else behind_line text
