-- What becomes of the parts of a text, one after another, over maps that are looked for place by place.
use Rattle.std.specs.Prelude.{◌≡◌, ◌+◌, ◌&&◌, ℕ, Bool, List, [], ◌∷◌, ◌++◌, Option, is_some, if◌then◌else◌, not, unwrap_or}
use Rattle.smap_record.specs.Record.{MapRecord}
use Rattle.smap_trace.specs.UrlNotes.{NamingSeen}
use Rattle.smap_anywhere.specs.Parts.{Part, PlaceUrl, found, other}
use Rattle.smap_anywhere.specs.Replaced.{Replacing, by_maps}

-- how a place is named, where its URL has a map or not, and it was replaced or not
abbrev pub naming_by : PlaceUrl → (has mapped : Bool) → NamingSeen
naming_by place has mapped = record {
  url = place.url;
  line = place.line;
  column = place.column;
  found = has;
  mapped = mapped;
  unmapped = has && not mapped;
}

-- the same, where this was found
abbrev pub naming_of : {F : Type 0} → Replacing F → PlaceUrl → F → NamingSeen
naming_of by place one = naming_by place (by.has one) (is_some (by.text one place))

-- the maps, what became of the parts so far, how many of them were places, and were replaced, and what the places named
pub record PlacesNow (M : Type 0) : Type 0 where
  pub maps : M
  pub text : List ℕ
  pub places : ℕ
  pub mapped : ℕ
  pub namings : List NamingSeen

abbrev pub places_start : {M : Type 0} → M → PlacesNow M
places_start maps = record { maps = maps; text = []; places = 0; mapped = 0; namings = [] }

-- a place becomes what stands in its stead by what is found under its URL then, where that has an original, and is counted and named
pub record PlaceStep {M F : Type 0} (by : Replacing F) (Finds : M → (url : List ℕ) → M → Type 0) (under : M → (url : List ℕ) → F)
    (old : PlacesNow M) (place : PlaceUrl) (bytes : List ℕ) (new : PlacesNow M) : Type 0 where
  pub finds : Finds old.maps place.url new.maps
  pub text_is : new.text ≡ old.text ++ unwrap_or (by.text (under new.maps place.url) place) bytes
  pub places : new.places ≡ old.places + 1
  pub mapped : new.mapped ≡ old.mapped + (if is_some (by.text (under new.maps place.url) place) then 1 else 0)
  pub named : new.namings ≡ old.namings ++ naming_of by place (under new.maps place.url) ∷ []

-- a byte that belongs to none stays
abbrev pub PartStep : {M F : Type 0} → (by : Replacing F) → (Finds : M → (url : List ℕ) → M → Type 0) → (under : M → (url : List ℕ) → F)
    → (old : PlacesNow M) → Part → (new : PlacesNow M) → Type 0
PartStep by Finds under old (other byte) new =
    new ≡ record { maps = old.maps; text = old.text ++ byte ∷ []; places = old.places; mapped = old.mapped; namings = old.namings }
PartStep by Finds under old (found place bytes) new = PlaceStep by Finds under old place bytes new

-- ---- what they may become

-- what a part may become, where this may be found under each URL
abbrev pub MayBeBy : {F : Type 0} → (by : Replacing F) → (Allows : (url : List ℕ) → F → Type 0) → Part → (text : List ℕ) → Type 0
MayBeBy by Allows (other byte) text = text ≡ byte ∷ []
MayBeBy {F = F} by Allows (found place bytes) text = (one : F) × Allows place.url one × (text ≡ unwrap_or (by.text one place) bytes)

-- what parts may become, one after another
abbrev pub MayBecomeBy : {F : Type 0} → (by : Replacing F) → (Allows : (url : List ℕ) → F → Type 0) → List Part → (text : List ℕ) → Type 0
MayBecomeBy by Allows [] text = text ≡ []
MayBecomeBy by Allows (part ∷ parts) text =
    (first : List ℕ) × (rest : List ℕ) × MayBeBy by Allows part first × MayBecomeBy by Allows parts rest × (text ≡ first ++ rest)

-- the same where functions keep their names, and each URL may have these maps
abbrev pub MayBe : (Allows : (url : List ℕ) → Option MapRecord → Type 0) → Part → (text : List ℕ) → Type 0
MayBe = MayBeBy by_maps

abbrev pub MayBecome : (Allows : (url : List ℕ) → Option MapRecord → Type 0) → List Part → (text : List ℕ) → Type 0
MayBecome = MayBecomeBy by_maps
