-- The parts of a frame line: the one choice of them of which `IsFrame` holds.
use Rattle.std.specs.Prelude.{ℕ, ◌+◌, Bool, false, List, [], ◌∷◌, ◌++◌, Option, Some, None, if◌then◌else◌, codes, take, drop}
use Rattle.std.specs.Char.{is_ascii_digit}
use Rattle.std.specs.List.{prefix_len, starts_with}
use Rattle.std.specs.Bool.{nat_eq}
use Rattle.smap_lines.specs.Bytes.{is_blank}
use Rattle.smap_lines.specs.Numbers.{decimal_number}
use Rattle.smap_trace.specs.Cuts.{cut_at_first_byte, cut_at_last_byte, cut_at_call, without_last}
use Rattle.smap_trace.specs.Frame.{FrameParts, is_line}

-- ---- a location: a URL, `:`, a line, `:`, a column

pub record Location : Type 0 where
  pub url : List ℕ
  pub line : ℕ
  pub column : ℕ

abbrev pub location_with : List ℕ → Option ℕ → Option ℕ → Option Location
location_with [] line column = None
location_with (byte ∷ url) None column = None
location_with (byte ∷ url) (Some line) None = None
location_with (byte ∷ url) (Some line) (Some column) = Some (record { url = byte ∷ url; line = line; column = column })

-- the location before a column
abbrev pub location_before : Option (List ℕ × List ℕ) → Option ℕ → Option Location
location_before None column = None
location_before (Some (url, line)) column = location_with url (decimal_number line) column

abbrev pub location_cut : Option (List ℕ × List ℕ) → Option Location
location_cut None = None
location_cut (Some (front, column)) = location_before (cut_at_last_byte 58 front) (decimal_number column)

-- the location that a text is; its last two `:` cut it
abbrev pub location_of : List ℕ → Option Location
location_of text = location_cut (cut_at_last_byte 58 text)

-- ---- the three forms

abbrev pub parts_with : (head : List ℕ) → Option Location → (tail : List ℕ) → Option FrameParts
parts_with head None tail = None
parts_with head (Some location) tail = Some (record { head = head; url = location.url; line = location.line; column = location.column; tail = tail })

abbrev pub call_frame : (head : List ℕ) → Option (List ℕ × List ℕ) → (tail : List ℕ) → Option FrameParts
call_frame head None tail = None
call_frame head (Some ([], location)) tail = None
call_frame head (Some (byte ∷ function, location)) tail = parts_with (head ++ byte ∷ function ++ codes " (") (location_of location) tail

abbrev pub is_async : List ℕ → Bool
is_async text = starts_with nat_eq text (codes "async ")

-- the parts, unless the URL begins with `async `
abbrev pub unless_async : Option FrameParts → Option FrameParts
unless_async None = None
unless_async (Some parts) = if is_async parts.url then None else Some parts

abbrev pub plain_frame : (head text tail : List ℕ) → Option FrameParts
plain_frame head text tail =
    unless_async (if is_async text then parts_with (head ++ codes "async ") (location_of (drop 6 text)) tail else parts_with head (location_of text) tail)

-- the frame after its blanks and `at `, where what stands there may end in `)`
abbrev pub at_frame : (head text : List ℕ) → Option (List ℕ) → (end : List ℕ) → Option FrameParts
at_frame head text (Some inner) end = call_frame head (cut_at_call inner) (codes ")" ++ end)
at_frame head text None end = plain_frame head text end

-- the last byte is a digit, as a column's is: a line that ends otherwise is not searched for an `@`
abbrev pub ends_in_digit : List ℕ → Bool
ends_in_digit [] = false
ends_in_digit (byte ∷ []) = is_ascii_digit byte
ends_in_digit (byte ∷ next ∷ text) = ends_in_digit (next ∷ text)

-- the frame whose function the first `@` ends
abbrev pub sign_frame_at : Option (List ℕ × List ℕ) → (tail : List ℕ) → Option FrameParts
sign_frame_at None tail = None
sign_frame_at (Some (function, location)) tail = parts_with (function ++ codes "@") (location_of location) tail

abbrev pub sign_frame : (text tail : List ℕ) → Option FrameParts
sign_frame text tail = if ends_in_digit text then sign_frame_at (cut_at_first_byte 64 text) tail else None

-- ---- the line

-- the frame of a line with this end, whose blanks are this many
abbrev pub frame_after : ℕ → (body end : List ℕ) → Option FrameParts
frame_after blanks body end =
    if starts_with nat_eq (drop blanks body) (codes "at ")
    then at_frame (take (blanks + 3) body) (drop (blanks + 3) body) (without_last 41 (drop (blanks + 3) body)) end
    else sign_frame body end

abbrev pub frame_in : (line : List ℕ) → Option (List ℕ) → Option FrameParts
frame_in line (Some body) = frame_after (prefix_len is_blank body) body (codes "\r")
frame_in line None = frame_after (prefix_len is_blank line) line []

-- the parts of a line, if it is a frame
unfoldable pub frame_of : List ℕ → Option FrameParts
frame_of line = if is_line line then frame_in line (without_last 13 line) else None
