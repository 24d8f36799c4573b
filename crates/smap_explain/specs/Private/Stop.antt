-- The byte of a JSON text that its reader tells by a line and a column.
use Rattle.std.specs.Prelude.{ℕ, ◌+◌, ◌-◌, List, ◌&&◌, if◌then◌else◌, length, min, nat_le, nat_lt, slice_get}
use Rattle.std.specs.Option.{option_map_or}
use Rattle.memchr.specs.Find.{is_byte, places}
use Rattle.smap_explain.specs.declared.stop.Told.{Told}

-- the byte after the LF with this number, from 0; the end of the text, where there are fewer
abbrev pub after_line_end : List ℕ → ℕ → ℕ
after_line_end text number = option_map_or (λ at. at + 1) (slice_get (places (is_byte 10) text) number) (length text)

-- the byte at which a line begins, from 1
abbrev pub start_of_line : List ℕ → ℕ → ℕ
start_of_line text line = if nat_lt line 2 then 0 else after_line_end text (line - 2)

-- the byte at a line and a column, both from 1, in the text. The last byte and the end are told by the same column: it is
-- the end where the text was cut.
abbrev pub place_told : List ℕ → Told → ℕ
place_told text told =
    if told.is_cut && nat_le (length text) (start_of_line text told.line + told.column) then length text
    else min (start_of_line text told.line + (told.column - 1)) (length text)
