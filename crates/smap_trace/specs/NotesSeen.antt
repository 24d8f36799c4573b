-- What contracts see of what is noted of URLs.
use Rattle.std.specs.Prelude.{map}
use Rattle.smap_trace.specs.UrlNotes.{NamingSeen, NotesSeen, UrlNoteSeen}
use Rattle.smap_trace.specs.declared.url_notes.Naming.{Naming}
use Rattle.smap_trace.specs.declared.url_notes.UrlNote.{UrlNote}
use Rattle.smap_trace.specs.declared.url_notes.UrlNotes.{UrlNotes}

abbrev pub naming_seen : Naming → NamingSeen
naming_seen naming = record {
  url = naming.url.now;
  line = naming.line;
  column = naming.column;
  found = naming.found;
  mapped = naming.mapped;
  unmapped = naming.unmapped;
}

abbrev pub note_seen : UrlNote → UrlNoteSeen
note_seen note = record { url = note.url.items; frames = note.frames; mapped = note.mapped; found = note.found; unmapped = note.unmapped }

abbrev pub notes_seen : UrlNotes → NotesSeen
notes_seen notes = record { notes = map note_seen notes.notes.items; is_short = notes.is_short }
