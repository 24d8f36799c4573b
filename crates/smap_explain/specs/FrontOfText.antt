-- The front of a text, which is all of it that is shown.
use Rattle.std.specs.Prelude.{ℕ, List, length, min, take}
use Rattle.std.specs.Str.Lossy.{utf8_lossy}

-- its first 80 bytes, or as many as there are, with U+FFFD for what is cut of a character
abbrev pub front_of_text : List ℕ → List ℕ
front_of_text bytes = utf8_lossy (take (min (length bytes) 80) bytes)
