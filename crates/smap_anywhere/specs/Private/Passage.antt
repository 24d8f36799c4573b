-- Of private contracts only: a text on its way through a window.
use Rattle.std.specs.Prelude.{◌≡◌, ◌≤◌, ℕ, Bool, List, ◌++◌, Option, length}
use Rattle.std.specs.List.{FoldsTo, flat_map}
use Rattle.smap_io.specs.Device.{Takes}
use Rattle.smap_pairs.specs.Chunks.{Cut, cut_bytes, cuts_from, cuts_of}
use Rattle.smap_trace.specs.Noted.{AreNotesIf}
use Rattle.smap_trace.specs.UrlNotes.{NamingSeen, NotesSeen}
use Rattle.smap_anywhere.specs.Parts.{Part}
use Rattle.smap_anywhere.specs.PartSteps.{PartStep, PlacesNow, places_start}
use Rattle.smap_anywhere.specs.Replaced.{Replacing}

-- how far it is: the window, and whether it begins behind a chunk that is broken off, the maps, how many places were found and
-- replaced, what is noted of them and of others, where that is asked, and what the output took
pub record Passage (M : Type 0) : Type 0 where
  pub window : List ℕ
  pub is_broken : Bool
  pub maps : M
  pub places : ℕ
  pub mapped : ℕ
  pub is_noted : Bool
  pub notes : NotesSeen
  pub others : NotesSeen
  pub taken : Option (List ℕ)

abbrev pub passage_now : {M : Type 0} → Passage M → (text : List ℕ) → (namings : List NamingSeen) → PlacesNow M
passage_now now text namings = record { maps = now.maps; text = text; places = now.places; mapped = now.mapped; namings = namings }

-- of a text whose first bytes these are, and then those of the window, all up to the window was cut, rewritten, written and noted,
-- whatever is still to come
pub record IsThrough {M F : Type 0} (by : Replacing F) (Finds : M → (url : List ℕ) → M → Type 0) (under : M → (url : List ℕ) → F)
    (parts : Cut → List Part) (unknown : Cut → List NamingSeen) (old : M) (before : Option (List ℕ)) (front : List ℕ) (now : Passage M) : Type 0 where
  pub cuts : List Cut
  pub text : List ℕ
  pub namings : List NamingSeen
  pub bytes : flat_map cut_bytes cuts ≡ front
  pub cut : (later : List ℕ) → cuts_of (front ++ (now.window ++ later)) ≡ cuts ++ cuts_from 0 now.is_broken (now.window ++ later)
  pub steps : FoldsTo (PartStep by Finds under) (places_start old) (flat_map parts cuts) (passage_now now text namings)
  pub noted : AreNotesIf now.is_noted namings now.notes
  pub others : AreNotesIf now.is_noted (flat_map unknown cuts) now.others
  pub taken : Takes before now.taken text
  pub few_places : now.places ≤ length front
  pub few_mapped : now.mapped ≤ length front
