-- What rewriting the places of a text does to its devices, over maps that are looked for place by place.
use Rattle.std.specs.Prelude.{◌≡◌, ◌↔◌, ◌<◌, ◌≤◌, ℕ, Bool, List, ◌++◌, Option, length}
use Rattle.std.specs.Io.KnownBytes.{IsAtEnd}
use Rattle.std.specs.List.{FoldsTo}
use Rattle.smap_io.specs.Device.{Gives, Takes}
use Rattle.smap_lines.specs.Editing.{DevicesSeen}
use Rattle.smap_lines.specs.Lines.{IsWholeLines, lines_with_ends}
use Rattle.smap_lines.specs.declared.fault.LineFault.{LineFault}
use Rattle.smap_lines.specs.declared.fault.LineFault.TheVariants.{Read, TooMuch}
use Rattle.smap_record.specs.Record.{MapRecord}
use Rattle.smap_trace.specs.Noted.{AreNotesIf, nothing_noted}
use Rattle.smap_trace.specs.NotesSeen.{notes_seen}
use Rattle.smap_trace.specs.Rewriting.{counts_seen}
use Rattle.smap_trace.specs.UrlNotes.{NamingSeen, NotesSeen}
use Rattle.smap_trace.specs.declared.outcome.Summary.{Summary}
use Rattle.smap_anywhere.specs.Parts.{Part}
use Rattle.smap_anywhere.specs.PartSteps.{MayBecomeBy, PartStep, PlacesNow, places_start}
use Rattle.smap_anywhere.specs.Replaced.{Replacing, by_maps}
use Rattle.smap_anywhere.specs.declared.notes.PlaceNotes.{PlaceNotes}

-- what is asked: the parts of a text, how many bytes are taken at most, and whether it is noted what became of the URLs that its
-- places name, and of others, which are these of a text
pub record PlacesAsked : Type 0 where
  pub parts : List ℕ → List Part
  pub unknown : List ℕ → List NamingSeen
  pub most_bytes : ℕ
  pub is_noted : Bool

-- nothing is noted
abbrev pub AreNone : PlaceNotes → Type 0
AreNone notes = (notes_seen notes.named ≡ nothing_noted) × (notes_seen notes.others ≡ nothing_noted)

-- all that the input had, which is at most so many bytes, was read, and what its parts became one after another was written, and
-- nothing else; and these are the notes of what its places named, and of others
pub record RewritesAnywhereOver {M F : Type 0} (by : Replacing F) (Finds : M → (url : List ℕ) → M → Type 0) (under : M → (url : List ℕ) → F)
    (asked : PlacesAsked) (before after : DevicesSeen) (old new : M) (summary : Summary) (named others : NotesSeen) : Type 0 where
  pub bytes : List ℕ
  pub last : PlacesNow M
  pub read : Gives before.input.left after.input.left bytes
  pub ended : IsAtEnd after.input.left
  pub fits : length bytes ≤ asked.most_bytes
  pub steps : FoldsTo (PartStep by Finds under) (places_start old) (asked.parts bytes) last
  pub maps : last.maps ≡ new
  pub written : Takes before.output.taken after.output.taken last.text
  pub counted : counts_seen summary ≡ record { lines = length (lines_with_ends bytes); frames = last.places; mapped = last.mapped; hidden = 0 }
  pub noted : AreNotesIf asked.is_noted last.namings named
  pub noted_others : AreNotesIf asked.is_noted (asked.unknown bytes) others

-- these bytes were read, and a front of a text that they may become was written; they are more than so many where that is
-- the fault, and only there; where a read failed, all of a text that their whole lines may become
pub record RewritesAnywhereFrontOver {F : Type 0} (by : Replacing F) (Allows : (url : List ℕ) → F → Type 0) (asked : PlacesAsked)
    (before after : DevicesSeen) (fault : LineFault) : Type 0 where
  pub bytes : List ℕ
  pub written : List ℕ
  pub later : List ℕ
  pub read : Gives before.input.left after.input.left bytes
  pub taken : Takes before.output.taken after.output.taken written
  pub front : MayBecomeBy by Allows (asked.parts bytes) (written ++ later)
  pub many : (fault ≡ TooMuch) ↔ (asked.most_bytes < length bytes)
  pub whole : fault ≡ Read → (first rest : List ℕ) → bytes ≡ first ++ rest → IsWholeLines first
      → (text : List ℕ) × (more : List ℕ) × MayBecomeBy by Allows (asked.parts first) text × (written ≡ text ++ more)

-- ---- the same where functions keep their names

abbrev pub RewritesAnywhere : {M : Type 0} → (Finds : M → (url : List ℕ) → M → Type 0) → (under : M → (url : List ℕ) → Option MapRecord) → PlacesAsked
    → (before after : DevicesSeen) → (old new : M) → Summary → (named others : NotesSeen) → Type 0
RewritesAnywhere = RewritesAnywhereOver by_maps

abbrev pub RewritesAnywhereFront : (Allows : (url : List ℕ) → Option MapRecord → Type 0) → PlacesAsked → (before after : DevicesSeen) → LineFault → Type 0
RewritesAnywhereFront = RewritesAnywhereFrontOver by_maps
