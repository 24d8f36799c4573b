-- What is noted of a text with a line more.
use Rattle.std.specs.Prelude.{◌+◌, Bool, if◌then◌else◌}
use Rattle.smap_lines.specs.Lines.{Line, line_text}
use Rattle.smap_trace.specs.Passed.{PlaceCount}
use Rattle.smap_trace.specs.TextNote.{TextNoteSeen, opening_with}
use Rattle.smap_trace.specs.UrlNotes.{as_counted}

-- it is noted, as far as 64 bits can count, if that is asked
abbrev pub text_noted : (is_noted : Bool) → PlaceCount → TextNoteSeen → Line → TextNoteSeen
text_noted is_noted count note line =
    if is_noted
    then (record { mentions = as_counted (note.mentions + count.mentions line.bytes); opening = opening_with note.opening (line_text line) })
    else note
