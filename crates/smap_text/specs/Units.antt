-- UTF-16 code units of a text (Unicode, UTF-16). Bytes and units count from 0.
use Rattle.std.specs.Prelude.{ℕ, List, length, take, nat_lt, if◌then◌else◌}
use Rattle.std.specs.List.{sum_by}
use Rattle.std.specs.Str.{chars}

-- a character below U+10000 is one unit, any other a pair
abbrev pub units_of : ℕ → ℕ
units_of c = if nat_lt c 0x10000 then 1 else 2

-- the units of the characters before a byte of a text
unfoldable pub units_before : List ℕ → (byte : ℕ) → ℕ
units_before text byte = sum_by units_of (chars (take byte text))

-- the units of a whole text
unfoldable pub units_in : List ℕ → ℕ
units_in text = units_before text (length text)
