-- Escapes: what stands for another character in JSON, in a string of a program, of nginx or of syslog.
--     A run of backslashes, and an ending: `n`, `r`, `t`, `b`, `f`, `"`, `'`, `u` and four hexadecimal digits, `x` and two.
--     Where it means a backslash, which was escaped in turn, it goes on: by more backslashes or none, and an ending. `\x5Cn`
--     is `\n`.
--     `#0`, a digit up to 3 and one up to 7, which are octal.
use Rattle.std.specs.Prelude.{ℕ, zero, suc, ◌+◌, ◌-◌, ◌*◌, ◌==◌, ◌&&◌, Bool, true, false, nat_le, List, [], ◌∷◌, Option, Some, None, option_map}
use Rattle.std.specs.Prelude.{if◌then◌else◌, length, slice_index, take}
use Rattle.std.specs.Char.{digit_value, is_ascii_hexdigit}
use Rattle.std.specs.Int.{is_in_range}
use Rattle.smap_pairs.specs.declared.escapes.Escape.{Escape}

-- an escape of so many bytes, if it means something
abbrev pub of_size : (size : ℕ) → (means : Option ℕ) → Option Escape
of_size size means = option_map (λ means. record { size = size; means = means }) means

-- ---- endings

-- what a letter or a quotation mark means behind a backslash
abbrev pub meant_by : ℕ → Option ℕ
meant_by byte =
    if byte == 110 then Some 10 else if byte == 114 then Some 13 else if byte == 116 then Some 9 else if byte == 98 then Some 8
    else if byte == 102 then Some 12 else if byte == 34 then Some 34 else if byte == 39 then Some 39 else None

-- the number that these hexadecimal digits write behind those of n
abbrev pub hexadecimal : (n : ℕ) → (digits : List ℕ) → Option ℕ
hexadecimal n [] = Some n
hexadecimal n (byte ∷ digits) = if is_ascii_hexdigit byte then hexadecimal (16 * n + digit_value byte) digits else None

-- the number that the first so many bytes of a text write
abbrev pub number_of : (many : ℕ) → (text : List ℕ) → Option ℕ
number_of many text = if nat_le many (length text) then hexadecimal 0 (take many text) else None

-- the ending that a text begins with, and what it means
unfoldable pub ending_of : List ℕ → Option Escape
ending_of [] = None
ending_of (byte ∷ text) =
    if byte == 117 then of_size 5 (number_of 4 text) else if byte == 120 then of_size 3 (number_of 2 text) else of_size 1 (meant_by byte)

-- ---- escapes

abbrev pub is_backslash : ℕ → Bool
is_backslash byte = byte == 92

-- an escape that is found goes on where it means a backslash
abbrev pub found : (goes_on : Bool) → (more : Option Escape → Option Escape) → Escape → Option Escape
found true more escape = more (Some escape)
found false more escape = Some escape

-- behind a run of backslashes, with which so many bytes are read, stands an ending, or the escape is the longest before
abbrev pub ended_by : (size : ℕ) → (before : Option Escape) → (more : ℕ → Option Escape → Option Escape)
    → (ending : Option Escape) → Option Escape
ended_by size before more None = before
ended_by size before more (Some ending) =
    found (is_backslash ending.means) (more (ending.size - 1)) record { size = size + ending.size; means = ending.means }

-- a backslash, or what stands behind a run of them
abbrev pub read_on : (is_in_run : Bool) → (size : ℕ) → (before : Option Escape) → (more : ℕ → Option Escape → Option Escape)
    → (ending : Option Escape) → Option Escape
read_on true size before more ending = more 0 before
read_on false size before more ending = ended_by size before more ending

-- the longest escape of a text of which so many bytes are read, where the next ones, so many, belong to an ending, and one
-- was found before. The text has the rest
unfoldable pub escape_from : (size skip : ℕ) → (before : Option Escape) → (text : List ℕ) → Option Escape
escape_from size skip before [] = before
escape_from size (suc skip) before (byte ∷ text) = escape_from (size + 1) skip before text
escape_from size zero before (byte ∷ text) =
    read_on (is_backslash byte) size before (λ skip before. escape_from (size + 1) skip before text) (ending_of (byte ∷ text))

-- the number that three octal digits behind a `#` write, where it is a control character or a blank's
abbrev pub octal : (text : List ℕ) → Option ℕ
octal text =
    if slice_index text 1 == 48 && is_in_range 48 51 (slice_index text 2) && is_in_range 48 55 (slice_index text 3)
    then Some (8 * (slice_index text 2 - 48) + (slice_index text 3 - 48)) else None

-- the escape that a text begins with
unfoldable pub escape_of : List ℕ → Option Escape
escape_of [] = None
escape_of (byte ∷ text) =
    if is_backslash byte then escape_from 0 0 None (byte ∷ text) else if byte == 35 then of_size 4 (octal (byte ∷ text)) else None
