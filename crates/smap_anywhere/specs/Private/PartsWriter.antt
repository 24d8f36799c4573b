-- Of private contracts only: what writing parts does to the maps, the counts and the notes.
use Rattle.std.specs.Prelude.{◌≡◌, ℕ, Bool, List, [], ◌++◌, MatchBool}
use Rattle.std.specs.List.{FoldsTo}
use Rattle.smap_trace.specs.Noted.{AreNotesOf}
use Rattle.smap_trace.specs.NotesSeen.{notes_seen}
use Rattle.smap_trace.specs.UrlNotes.{NamingSeen, NotesSeen}
use Rattle.smap_anywhere.specs.Parts.{Part}
use Rattle.smap_anywhere.specs.PartSteps.{PartStep, PlacesNow}
use Rattle.smap_anywhere.specs.declared.parts_writer.PartsWriter.{PartsWriter}
use Rattle.smap_anywhere.specs.Replaced.{Replacing}

-- the maps, what became of some parts, what was counted, and what they named
abbrev pub places_now : {M : Type 0} → PartsWriter M → (text : List ℕ) → (namings : List NamingSeen) → PlacesNow M
places_now writer text namings =
    record { maps = writer.maps.now; text = text; places = writer.places; mapped = writer.mapped; namings = namings }

-- it stays over the same maps and the same notes
abbrev pub IsSameWriter : {M : Type 0} → (old new : PartsWriter M) → Type 0
IsSameWriter old new =
    (new.maps.ghost_name ≡ old.maps.ghost_name) × (new.notes.ghost_name ≡ old.notes.ghost_name) × (new.is_noted ≡ old.is_noted)

-- the notes of any namings are then those of these behind them
abbrev pub AddsNotes : (namings : List NamingSeen) → (old new : NotesSeen) → Type 0
AddsNotes namings old new = (before : List NamingSeen) → AreNotesOf before old → AreNotesOf (before ++ namings) new

-- these namings were noted behind others, where that is asked; else the notes stay
abbrev pub AreNoted : (is_noted : Bool) → (namings : List NamingSeen) → (old new : NotesSeen) → Type 0
AreNoted is_noted namings old new = MatchBool is_noted (AddsNotes namings old new) (new ≡ old)

-- these parts became a text, one after another, and were counted and noted
pub record Becomes {M F : Type 0} (by : Replacing F) (Finds : M → (url : List ℕ) → M → Type 0) (under : M → (url : List ℕ) → F) (old new : PartsWriter M)
    (parts : List Part) (text : List ℕ) : Type 0 where
  pub namings : List NamingSeen
  pub steps : FoldsTo (PartStep by Finds under) (places_now old [] []) parts (places_now new text namings)
  pub noted : AreNoted old.is_noted namings (notes_seen old.notes.now) (notes_seen new.notes.now)
