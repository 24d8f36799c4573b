-- How the bytes of a text show its lines and its units.
use Rattle.std.specs.Prelude.{ℕ, suc, List, [], ◌∷◌, ◌==◌, ◌||◌, ◌&&◌, nat_lt, if◌then◌else◌, slice_index}

-- how many bytes the line end has that begins a text; 0 where none does
abbrev pub end_bytes : List ℕ → ℕ
end_bytes [] = 0
end_bytes (b ∷ bs) =
    if b == 0x0A then 1
    else (if b == 0x0D then (if slice_index bs 0 == 0x0A then 2 else 1)
    else (if b == 0xE2 && slice_index bs 0 == 0x80 && (slice_index bs 1 == 0xA8 || slice_index bs 1 == 0xA9) then 3
    else 0))

-- how many bytes stand before the first line end of a text
unfoldable pub line_bytes : List ℕ → ℕ
line_bytes [] = 0
line_bytes (b ∷ bs) = if end_bytes (b ∷ bs) == 0 then suc (line_bytes bs) else 0

-- how many bytes and how many units a character has, by its first byte
abbrev pub bytes_by_first : ℕ → ℕ
bytes_by_first b = if nat_lt b 0x80 then 1 else (if nat_lt b 0xE0 then 2 else (if nat_lt b 0xF0 then 3 else 4))

abbrev pub units_by_first : ℕ → ℕ
units_by_first b = if nat_lt b 0xF0 then 1 else 2
