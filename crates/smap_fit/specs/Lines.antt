-- The lines of a text that is code.
use Rattle.std.specs.Prelude.{ℕ, ◌==◌, List, [], ◌∷◌, if◌then◌else◌}
use Rattle.std.specs.Str.{chars}
use Rattle.smap_text.specs.Lines.{lines_of}

-- a byte order mark at the start of a text is no part of the code
abbrev pub code_of : List ℕ → List ℕ
code_of [] = []
code_of (c ∷ cs) = if c == 0xFEFF then cs else c ∷ cs

-- how many bytes it has where it stands there
abbrev pub mark_bytes : List ℕ → ℕ
mark_bytes [] = 0
mark_bytes (c ∷ cs) = if c == 0xFEFF then 3 else 0

-- the lines of the code in a text
abbrev pub lines_in : (text : List ℕ) → List (List ℕ)
lines_in text = lines_of (code_of (chars text))
