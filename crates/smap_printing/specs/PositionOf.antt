-- The position that a line is: the one of which `IsPosition` holds.
use Rattle.std.specs.Prelude.{ℕ, ◌==◌, Bool, true, false, List, [], ◌∷◌, Option, Some, None, if◌then◌else◌, take, drop}
use Rattle.std.specs.Char.{is_ascii_digit}
use Rattle.std.specs.List.{prefix_len}
use Rattle.smap_lines.specs.Bytes.{is_blank}
use Rattle.smap_lines.specs.Numbers.{decimal_number}
use Rattle.smap_printing.specs.declared.printed_position.PrintedPosition.{PrintedPosition}

-- what stands after the blanks that a text begins with
abbrev pub after_blanks : List ℕ → List ℕ
after_blanks text = drop (prefix_len is_blank text) text

-- nothing is left, or a CR
abbrev pub is_line_end : List ℕ → Bool
is_line_end [] = true
is_line_end (byte ∷ []) = byte == 13
is_line_end (byte ∷ next ∷ text) = false

-- how many bytes a text begins with that separate a line and a column: one `:`, or blanks
abbrev pub separator_len : List ℕ → ℕ
separator_len [] = 0
separator_len (byte ∷ text) = if byte == 58 then 1 else prefix_len is_blank (byte ∷ text)

-- the number that the digits print which a text begins with
abbrev pub first_number : List ℕ → Option ℕ
first_number text = decimal_number (take (prefix_len is_ascii_digit text) text)

-- what stands after them
abbrev pub after_digits : List ℕ → List ℕ
after_digits text = drop (prefix_len is_ascii_digit text) text

-- the column of a text that is one, with what may stand after it
abbrev pub column_of : List ℕ → Option ℕ
column_of text = if is_line_end (after_blanks (after_digits text)) then first_number text else None

abbrev pub position_with : (line column : Option ℕ) → Option PrintedPosition
position_with None column = None
position_with (Some line) None = None
position_with (Some line) (Some column) = Some (record { line = line; column = column })

-- the column after the separator that a text begins with
abbrev pub column_after : List ℕ → Option ℕ
column_after text = column_of (drop (separator_len text) text)

-- the position of a text that begins with its line
abbrev pub position_in : List ℕ → Option PrintedPosition
position_in text = position_with (first_number text) (column_after (after_digits text))

-- the position that a line, without its LF, is
unfoldable pub position_of : List ℕ → Option PrintedPosition
position_of line = position_in (after_blanks line)
