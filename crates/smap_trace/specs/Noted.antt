-- What the frames of a trace name, and the notes of it.
use Rattle.std.specs.Prelude.{◌≡◌, ℕ, Bool, false, List, [], ◌∷◌, Option, Some, None, MatchBool, ⊤}
use Rattle.smap_record.specs.Record.{MapRecord}
use Rattle.smap_trace.specs.Frame.{FrameParts}
use Rattle.smap_trace.specs.Hiding.{HidingSeen}
use Rattle.smap_trace.specs.UrlNotes.{NamingSeen, NotesSeen, naming_in, noted}

-- what a line names, over what is found for its URL
abbrev pub namings_in : (hide : HidingSeen) → (found : (url : List ℕ) → Option MapRecord) → Option FrameParts → List NamingSeen
namings_in hide found None = []
namings_in hide found (Some parts) = naming_in hide parts (found parts.url) ∷ []

-- the notes are those of these namings, unless memory ran out for some
abbrev pub AreNotesOf : List NamingSeen → NotesSeen → Type 0
AreNotesOf namings notes = MatchBool notes.is_short ⊤ (notes.notes ≡ noted namings)

abbrev pub nothing_noted : NotesSeen
nothing_noted = record { notes = []; is_short = false }

-- they are, if that is asked; or nothing is noted
abbrev pub AreNotesIf : (is_noted : Bool) → List NamingSeen → NotesSeen → Type 0
AreNotesIf is_noted namings notes = MatchBool is_noted (AreNotesOf namings notes) (notes ≡ nothing_noted)
