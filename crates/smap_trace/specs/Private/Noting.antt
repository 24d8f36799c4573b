-- Noting one frame after another.
use Rattle.std.specs.Prelude.{◌≡◌, ℕ, ◌+◌, ◌||◌, Bool, false, List, [], ◌∷◌, ◌++◌, Option, Some, None, MatchBool, ⊤, cond, length, nat_le}
use Rattle.std.specs.Option.{option_or}
use Rattle.std.specs.List.{list_any}
use Rattle.std.specs.Str.{bytes_eq}
use Rattle.smap_trace.specs.UrlNotes.{NamingSeen, NotesSeen, UrlNoteSeen, as_counted}

-- a place, where there is one
abbrev pub place_where : Bool → (line column : ℕ) → Option (ℕ × ℕ)
place_where unmapped line column = cond unmapped (Some (line, column)) None

-- a note with one naming more
abbrev pub with_naming : NamingSeen → UrlNoteSeen → UrlNoteSeen
with_naming naming note = record {
  url = note.url;
  frames = as_counted (note.frames + 1);
  mapped = as_counted (note.mapped + cond naming.mapped 1 0);
  found = note.found || naming.found;
  unmapped = option_or note.unmapped (place_where naming.unmapped naming.line naming.column);
}

-- the note of a URL that is named the first time
abbrev pub first_note : NamingSeen → UrlNoteSeen
first_note naming = record {
  url = naming.url;
  frames = 1;
  mapped = cond naming.mapped 1 0;
  found = naming.found;
  unmapped = place_where naming.unmapped naming.line naming.column;
}

abbrev pub is_of : (url : List ℕ) → UrlNoteSeen → Bool
is_of url note = bytes_eq url note.url

-- the notes, where one is of the naming's URL
abbrev pub with_one : NamingSeen → List UrlNoteSeen → List UrlNoteSeen
with_one naming [] = []
with_one naming (note ∷ notes) = cond (is_of naming.url note) (with_naming naming note ∷ notes) (note ∷ with_one naming notes)

-- the notes after a naming
abbrev pub noting : List UrlNoteSeen → NamingSeen → List UrlNoteSeen
noting notes naming =
    cond (list_any (is_of naming.url) notes) (with_one naming notes)
    (cond (nat_le 100 (length notes)) notes (notes ++ first_note naming ∷ []))

-- a naming was noted, or memory ran out, now or before
abbrev pub IsNoted : NotesSeen → NamingSeen → NotesSeen → Type 0
IsNoted old naming new = MatchBool new.is_short ⊤ ((old.is_short ≡ false) × (new.notes ≡ noting old.notes naming))
