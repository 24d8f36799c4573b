-- The excerpt that shows a place in a line: a part of the line, and a caret under the place.
use Rattle.std.specs.Prelude.{◌-◌, ◌+◌, ℕ, List, [], ◌∷◌, ◌++◌, Option, Some, None, option_map, option_and_then, nat_lt, ◌==◌, if◌then◌else◌, map}
use Rattle.std.specs.Prelude.{take, drop, slice_get, replicate}
use Rattle.std.specs.Str.{chars, encode_utf8_all}
use Rattle.smap_text.specs.Lines.{lines_of}
use Rattle.smap_text.specs.Shown.{shown_byte}
use Rattle.smap_text.specs.Units.{units_of}

-- the number of a line's characters before the one that has this unit; at the line's end all, past it none is
unfoldable pub characters_before : List ℕ → (column : ℕ) → Option ℕ
characters_before [] column = if column == 0 then Some 0 else None
characters_before (c ∷ cs) column =
    if nat_lt column (units_of c) then Some 0
    else option_map (λ n. n + 1) (characters_before cs (column - units_of c))

-- a character as it shows: a tab as a space
abbrev pub shown_character : ℕ → ℕ
shown_character c = if c == 0x09 then 0x20 else shown_byte c

-- 120 characters of a line, from 60 before the one of this number on, and a caret under that one
abbrev pub excerpt_text : (line : List ℕ) (number : ℕ) → List ℕ
excerpt_text line number =
    let first = number - 60 in
    map shown_character (take 120 (drop first line)) ++ 0x0A ∷ replicate (number - first) 0x20 ++ 0x5E ∷ []

-- the excerpt of a line at a column, from 0
abbrev pub line_excerpt : (line : List ℕ) (column : ℕ) → Option (List ℕ)
line_excerpt line column = option_map (λ number. encode_utf8_all (excerpt_text line number)) (characters_before line column)

-- the excerpt of a content at a line and a column, both from 0
abbrev pub excerpt_of : (content : List ℕ) (line column : ℕ) → Option (List ℕ)
excerpt_of content line column = option_and_then (λ text. line_excerpt text column) (slice_get (lines_of (chars content)) line)
