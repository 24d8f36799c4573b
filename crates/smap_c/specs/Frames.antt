-- The URLs that the frames of a trace name, one after another.
use Rattle.std.specs.Prelude.{ℕ, ◌+◌, List, [], ◌∷◌, Option, None, Some, drop, length}
use Rattle.std.specs.List.{slice_range}
use Rattle.smap_lines.specs.Lines.{Line, line_text, lines_with_ends}
use Rattle.smap_trace.specs.Frame.{FrameParts}
use Rattle.smap_trace.specs.FrameOf.{frame_of}
use Rattle.smap_c.specs.declared.frames.FrameUrl.{FrameUrl}

-- the URL of a frame, where it stands in the trace, and where the line after the frame begins or the trace ends
pub record NamedUrl : Type 0 where
  pub url : List ℕ
  pub start : ℕ
  pub next : ℕ

-- the URL of the line that begins at this byte, if it is a frame, or else this one
abbrev pub url_or : Option FrameParts → (at : ℕ) → Line → Option NamedUrl → Option NamedUrl
url_or None at line later = later
url_or (Some parts) at line later = Some (record { url = parts.url; start = at + length parts.head; next = at + length (line_text line) })

-- that of the first frame among these lines, which begin at this byte
abbrev pub first_url : (at : ℕ) → List Line → Option NamedUrl
first_url at [] = None
first_url at (line ∷ lines) = url_or (frame_of line.bytes) at line (first_url (at + length (line_text line)) lines)

-- that of the next frame of a trace, from this byte on, at which a line begins
abbrev pub next_frame_url : (trace : List ℕ) → (from : ℕ) → Option NamedUrl
next_frame_url trace from = first_url from (lines_with_ends (drop from trace))

-- the URL that stands there in a trace
abbrev pub named_url : (trace : List ℕ) → FrameUrl → NamedUrl
named_url trace frame =
    record { url = slice_range trace frame.start (frame.start + frame.length); start = frame.start; next = frame.next }
