-- What is noted of a text as a whole, and not of the URLs that its frames name.
use Rattle.std.specs.Prelude.{ℕ, ◌+◌, ◌++◌, Bool, List, [], if◌then◌else◌, take}
use Rattle.smap_lines.specs.Lines.{Line, line_text}
use Rattle.smap_trace.specs.Passed.{PlaceCount}
use Rattle.smap_trace.specs.UrlNotes.{as_counted}
use Rattle.smap_trace.specs.declared.text_note.Opening.{Opening}
use Rattle.smap_trace.specs.declared.text_note.TextNote.{TextNote}

-- how often URLs stand in its lines, and its first bytes
pub record TextNoteSeen : Type 0 where
  pub mentions : ℕ
  pub opening : List ℕ

abbrev pub opening_seen : Opening → List ℕ
opening_seen opening = take opening.len opening.bytes

abbrev pub text_note_seen : TextNote → TextNoteSeen
text_note_seen note = record { mentions = note.mentions; opening = opening_seen note.opening }

abbrev pub no_text_noted : TextNoteSeen
no_text_noted = record { mentions = 0; opening = [] }

-- the first bytes of a text, which are six at most, where more stands behind them
abbrev pub opening_with : (opening : List ℕ) → (more : List ℕ) → List ℕ
opening_with opening more = take 6 (opening ++ more)

-- what is noted with a line more
abbrev pub text_with : PlaceCount → TextNoteSeen → Line → TextNoteSeen
text_with count note line = record {
  mentions = note.mentions + count.mentions line.bytes;
  opening = opening_with note.opening (line_text line);
}

-- it is counted as far as 64 bits can count, if that is asked; or nothing is noted
abbrev pub text_if : (is_noted : Bool) → TextNoteSeen → TextNoteSeen
text_if is_noted note =
    if is_noted then (record { mentions = as_counted note.mentions; opening = note.opening }) else no_text_noted
