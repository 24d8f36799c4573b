-- The place that a line asks for (this project's own grammar): blanks, a URL, `:`, a line, `:`, a column, and blanks; a CR may end
-- it. The last two `:` cut it, so that a URL may have others. Lines and columns count from 1, columns in UTF-16 code units.
use Rattle.std.specs.Prelude.{ℕ, ◌==◌, List, Option, Some, None, if◌then◌else◌, length}
use Rattle.std.specs.Str.{is_utf8}
use Rattle.smap_lines.specs.Numbers.{decimal_number}
use Rattle.smap_printing.specs.PositionOf.{after_blanks, column_of, position_with}
use Rattle.smap_printing.specs.declared.printed_position.PrintedPosition.{PrintedPosition}
use Rattle.smap_trace.specs.Cuts.{cut_at_last_byte}

-- a generated position in the file of a URL
pub record UrlPlace : Type 0 where
  pub url : List ℕ
  pub position : PrintedPosition

-- the place at a URL, if that is one: UTF-8, and not empty
abbrev pub place_with : (url : List ℕ) → Option PrintedPosition → Option UrlPlace
place_with url None = None
place_with url (Some position) =
    if length url == 0 then None else (if is_utf8 url then Some (record { url = url; position = position }) else None)

-- the place before a column
abbrev pub place_before : Option (List ℕ × List ℕ) → (column : Option ℕ) → Option UrlPlace
place_before None column = None
place_before (Some (url, line)) column = place_with url (position_with (decimal_number line) column)

abbrev pub place_cut : Option (List ℕ × List ℕ) → Option UrlPlace
place_cut None = None
place_cut (Some (front, column)) = place_before (cut_at_last_byte 58 front) (column_of column)

-- the place that a line, without its LF, asks for
unfoldable pub place_of : List ℕ → Option UrlPlace
place_of line = place_cut (cut_at_last_byte 58 (after_blanks line))
