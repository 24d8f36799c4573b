use Rattle.smap_trace.proofs.NotesLaws.{noted_after}
use Rattle.smap_trace.proofs.url_notes.UrlNotes.note.Goals as goal

pub returns : goal.returns
returns c = λ namings are. noted_after namings _ _ _ are c.note_one.ensures
