-- A short text.
use Rattle.std.specs.Prelude.{ℕ}

-- how many bytes it has at most
abbrev pub most_short : ℕ
most_short = 256

-- how many a piece of it has at most
abbrev pub most_piece : ℕ
most_piece = 64
