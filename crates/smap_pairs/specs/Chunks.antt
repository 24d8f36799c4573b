-- How a text is cut whose places are found (this project's own): into its lines, each with its LF; and a line of more than 65,536
-- bytes into chunks. The first ends before the last `"` among that many bytes and the backslashes right before it, so that the next
-- begins as a string does; where there is none, before the last escape of a line's end, so that it begins as a line in one; where there
-- is none, before the last blank; and without all these it is broken off behind the bytes, but for the digits, `:` and `-` at its end.
-- What stands behind a chunk that is broken off stays up to the next `"` or blank, or the line's end, since a URL may go on there.
use Rattle.std.specs.Prelude.{ℕ, ◌<◌, ◌≤◌, zero, suc, ◌-◌, ◌==◌, ◌||◌, ◌&&◌, Bool, true, false, not, nat_le, nat_lt, List, [], ◌∷◌, Option, Some, None, if◌then◌else◌, length, max, min, reverse, slice_index, take}
use Rattle.std.specs.Char.{is_ascii_digit}
use Rattle.std.specs.List.{prefix_len}
use Rattle.smap_lines.specs.Limits.{most_line_bytes}
use Rattle.smap_pairs.specs.Escapes.{escape_of, is_backslash}
use Rattle.smap_pairs.specs.Marks.{ends_line}
use Rattle.smap_pairs.specs.declared.chunk.Chunk.{Chunk}
use Rattle.smap_pairs.specs.declared.escapes.Escape.{Escape}

-- ---- the first chunk

-- how many bytes the first line of a text has, without its LF
abbrev pub line_bytes : (text : List ℕ) → ℕ
line_bytes text = prefix_len (λ byte. not (byte == 10)) text

-- how many bytes a text has without those at its end that pass a test
abbrev pub without_end : (test : ℕ → Bool) → (text : List ℕ) → ℕ
without_end test text = length text - prefix_len test (reverse text)

-- where the last `"` stands in a text, 0 where none does
abbrev pub last_quote : (text : List ℕ) → ℕ
last_quote text = without_end (λ byte. not (byte == 34)) text - 1

-- where the last blank stands in it
abbrev pub last_blank : (text : List ℕ) → ℕ
last_blank text = without_end (λ byte. not (byte == 32)) text - 1

-- where the `"` begins with the backslashes right before it
abbrev pub quote_begin : (text : List ℕ) → ℕ
quote_begin text = without_end (λ byte. byte == 92) (take (last_quote text) text)

-- an escape of a line's end
abbrev pub is_line_end : Option Escape → Bool
is_line_end None = false
is_line_end (Some escape) = ends_line escape.means

-- how many bytes a text begins with that are an escape, a run of backslashes that is none, or another byte
abbrev pub escape_size : (text : List ℕ) → Option Escape → ℕ
escape_size text None = max 1 (prefix_len is_backslash text)
escape_size text (Some escape) = escape.size

-- where the last escape of a line's end begins in a text behind so many bytes, of which the first belong to what began before, so
-- many; and this where it has none
abbrev pub line_end_from : (last at skip : ℕ) → (text : List ℕ) → ℕ
line_end_from last at skip [] = last
line_end_from last at (suc skip) (byte ∷ text) = line_end_from last (suc at) skip text
line_end_from last at zero (byte ∷ text) =
    line_end_from (if is_line_end (escape_of (byte ∷ text)) then at else last) (suc at) (escape_size (byte ∷ text) (escape_of (byte ∷ text)) - 1) text

-- in a whole text, 0 where there is none
unfoldable pub last_line_end : (text : List ℕ) → ℕ
last_line_end text = line_end_from 0 0 0 text

-- a byte of numbers that may go on
abbrev pub goes_on_in_numbers : ℕ → Bool
goes_on_in_numbers byte = is_ascii_digit byte || byte == 58 || byte == 45

-- where the first bytes of a long line end that are a chunk, 0 where they don't
abbrev pub chunk_end : (front : List ℕ) → ℕ
chunk_end front =
    if nat_lt 0 (quote_begin front) then quote_begin front
    else if nat_lt 0 (last_line_end front) then last_line_end front else last_blank front

-- these, or else broken off
abbrev pub chunk_of_long : (front : List ℕ) → Chunk
chunk_of_long front =
    if nat_lt 0 (chunk_end front) then record { bytes = chunk_end front; is_broken = false }
    else record { bytes = max 1 (without_end goes_on_in_numbers front); is_broken = true }

-- the first chunk of a text that has bytes
unfoldable pub first_chunk : (text : List ℕ) → Chunk
first_chunk text =
    if nat_le (line_bytes text) most_line_bytes then record { bytes = min (suc (line_bytes text)) (length text); is_broken = false }
    else chunk_of_long (take most_line_bytes text)

-- ---- all

-- a chunk, whose places are found by themselves, or a byte that stays
pub data Cut : Type 0 where
  chunk : (text : List ℕ) → Cut
  stays : ℕ → Cut

-- a chunk begins with this byte behind one that is broken off: a `"` or a blank
abbrev pub begins_anew : ℕ → Bool
begins_anew byte = byte == 34 || byte == 32

-- a text that begins behind a chunk that is broken off, or not: a byte of it stays, or its first chunk is cut off
abbrev pub cut_first : (byte : ℕ) (text : List ℕ) → (is_broken : Bool) → (after : ℕ → Bool → List Cut) → List Cut
cut_first byte text is_broken after =
    if is_broken && not (begins_anew byte) then stays byte ∷ after 0 (not (byte == 10))
    else chunk (take (first_chunk (byte ∷ text)).bytes (byte ∷ text)) ∷ after ((first_chunk (byte ∷ text)).bytes - 1) (first_chunk (byte ∷ text)).is_broken

-- those of a text of which the first bytes, so many, belong to a chunk before it
unfoldable pub cuts_from : (within : ℕ) → (is_broken : Bool) → (text : List ℕ) → List Cut
cuts_from within is_broken [] = []
cuts_from (suc within) is_broken (byte ∷ text) = cuts_from within is_broken text
cuts_from zero is_broken (byte ∷ text) = cut_first byte text is_broken (λ within is_broken. cuts_from within is_broken text)

-- a text, cut
abbrev pub cuts_of : (text : List ℕ) → List Cut
cuts_of text = cuts_from 0 false text

-- its bytes
abbrev pub cut_bytes : Cut → List ℕ
cut_bytes (chunk text) = text
cut_bytes (stays byte) = byte ∷ []

-- ---- what stays

-- how many of the first bytes of a text stay behind a chunk that is broken off: those before the next `"`, or up to the line's end
abbrev pub staying_bytes : (text : List ℕ) → ℕ
staying_bytes [] = 0
staying_bytes (byte ∷ text) = if begins_anew byte then 0 else if byte == 10 then 1 else suc (staying_bytes text)

-- whether what stands behind so many bytes of a text that stay may stay too: not behind an LF
abbrev pub stays_broken : (text : List ℕ) → (bytes : ℕ) → Bool
stays_broken text bytes = not (nat_lt 0 bytes && slice_index text (bytes - 1) == 10)

-- ---- what a chunk is

-- it has bytes, an LF at most as its last one, and 65,536 without that at most
pub record IsInOneLine (text : List ℕ) : Type 0 where
  pub some : 0 < length text
  pub one : length text ≤ suc (line_bytes text)
  pub few : line_bytes text ≤ most_line_bytes

-- a chunk does, where this is one
abbrev pub IsCutOfLine : Cut → Type 0
IsCutOfLine (chunk text) = IsInOneLine text
IsCutOfLine (stays byte) = Unit {0}
