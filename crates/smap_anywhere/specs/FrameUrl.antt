-- Where the URL stands of the frame that a line is, or that one is but for what node prints behind it (this project's own).
use Rattle.std.specs.Prelude.{ℕ, ◌+◌, ◌-◌, ◌==◌, ◌&&◌, ◌||◌, Bool, false, nat_lt, List, [], ◌∷◌, Option, Some, None, codes, if◌then◌else◌, length, option_map, take}
use Rattle.std.specs.Bool.{nat_eq}
use Rattle.std.specs.List.{ends_with, slice_range}
use Rattle.smap_pairs.specs.Json.{has_quotation_mark}
use Rattle.smap_trace.specs.Frame.{FrameParts}
use Rattle.smap_trace.specs.FrameOf.{frame_of}

-- from which byte to which
abbrev pub url_in : FrameParts → ℕ × ℕ
url_in parts = (length parts.head, length parts.head + length parts.url)

-- that of the frame that a line is as a whole
abbrev pub whole_frame_url : (line : List ℕ) → Option (ℕ × ℕ)
whole_frame_url line = option_map url_in (frame_of line)

-- ---- before what node prints behind a frame

-- how many bytes that is at the end of a line: ` {` or `,`, and perhaps a CR
abbrev pub tail_bytes : (line : List ℕ) → ℕ
tail_bytes line =
    if ends_with nat_eq line (codes " {") then 2
    else if ends_with nat_eq line (codes ",") then 1
    else if ends_with nat_eq line (codes " {\r") then 3
    else if ends_with nat_eq line (codes ",\r") then 2
    else 0

abbrev pub without_tail : (line : List ℕ) → List ℕ
without_tail line = take (length line - tail_bytes line) line

-- it begins with a blank, as node prints frames
abbrev pub begins_with_blank : (line : List ℕ) → Bool
begins_with_blank [] = false
begins_with_blank (byte ∷ line) = byte == 32 || byte == 9

-- a URL without a quotation mark
abbrev pub unless_quoted : (line : List ℕ) → Option (ℕ × ℕ) → Option (ℕ × ℕ)
unless_quoted line None = None
unless_quoted line (Some (start, end)) = if has_quotation_mark (slice_range line start end) then None else Some (start, end)

abbrev pub url_before_tail : (line : List ℕ) → Option (ℕ × ℕ)
url_before_tail line =
    if nat_lt 0 (tail_bytes line) && begins_with_blank line then unless_quoted line (whole_frame_url (without_tail line)) else None

-- ---- in both

abbrev pub or_before_tail : (line : List ℕ) → Option (ℕ × ℕ) → Option (ℕ × ℕ)
or_before_tail line None = url_before_tail line
or_before_tail line (Some url) = Some url

abbrev pub frame_url : (line : List ℕ) → Option (ℕ × ℕ)
frame_url line = or_before_tail line (whole_frame_url line)
