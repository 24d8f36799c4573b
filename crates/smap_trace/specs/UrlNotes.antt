-- What a trace came to URL by URL (this project's own): the first 100 different URLs that its frames name, in the order in which
-- they do so first; each with how many frames name it, how many of these were replaced, whether a map was found for it, and the first
-- place for which that has nothing that can be printed.
use Rattle.std.specs.Prelude.{ℕ, ◌-◌, ◌^◌, ◌&&◌, ◌||◌, Bool, true, false, List, [], ◌∷◌, ◌++◌, Option, Some, None}
use Rattle.std.specs.Prelude.{filter, fold, if◌then◌else◌, is_some, length, map, min, nat_le}
use Rattle.std.specs.List.{list_any}
use Rattle.std.specs.Str.{bytes_eq}
use Rattle.smap_record.specs.Record.{MapRecord}
use Rattle.smap_trace.specs.Frame.{FrameParts}
use Rattle.smap_trace.specs.Hiding.{HidingSeen}
use Rattle.smap_trace.specs.Rewritten.{Fate, fate_at, hidden, is_mapped, no_frame, original_in, replaced, stays}

-- ---- a frame, and what became of it

-- it stays
abbrev pub is_staying : Fate → Bool
is_staying no_frame = false
is_staying stays = true
is_staying (replaced text) = false
is_staying hidden = false

-- a frame that names a URL: its place, whether a map was found for the URL, and whether the frame was replaced; it is `unmapped`
-- where it stays though there is a map
pub record NamingSeen : Type 0 where
  pub url : List ℕ
  pub line : ℕ
  pub column : ℕ
  pub found : Bool
  pub mapped : Bool
  pub unmapped : Bool

abbrev pub naming_with : FrameParts → (found : Bool) → Fate → NamingSeen
naming_with parts found met = record {
  url = parts.url;
  line = parts.line;
  column = parts.column;
  found = found;
  mapped = is_mapped met;
  unmapped = found && is_staying met;
}

-- the naming by a frame of these parts, where this map is found for its URL, or none
abbrev pub naming_in : (hide : HidingSeen) → FrameParts → (found : Option MapRecord) → NamingSeen
naming_in hide parts found = naming_with parts (is_some found) (fate_at hide parts (original_in parts found))

-- ---- what is noted of a URL

pub record UrlNoteSeen : Type 0 where
  pub url : List ℕ
  pub frames : ℕ
  pub mapped : ℕ
  pub found : Bool
  pub unmapped : Option (ℕ × ℕ)

-- the naming is of this URL
abbrev pub names : (url : List ℕ) → NamingSeen → Bool
names url naming = bytes_eq naming.url url

-- the place of the first that is unmapped
abbrev pub first_unmapped : List NamingSeen → Option (ℕ × ℕ)
first_unmapped [] = None
first_unmapped (naming ∷ namings) = if naming.unmapped then Some (naming.line, naming.column) else first_unmapped namings

-- so many, as far as 64 bits can count
abbrev pub as_counted : ℕ → ℕ
as_counted count = min count (2 ^ 64 - 1)

-- what is noted of a URL that these frames name
abbrev pub note_with : (url : List ℕ) → (own : List NamingSeen) → UrlNoteSeen
note_with url own = record {
  url = url;
  frames = as_counted (length own);
  mapped = as_counted (length (filter (λ naming. naming.mapped) own));
  found = list_any (λ naming. naming.found) own;
  unmapped = first_unmapped own;
}

-- the same where others are among them
abbrev pub note_of : (namings : List NamingSeen) → (url : List ℕ) → UrlNoteSeen
note_of namings url = note_with url (filter (names url) namings)

-- one URL more, where it is not among them, and they are fewer than 100
abbrev pub with_url : (urls : List (List ℕ)) → (url : List ℕ) → List (List ℕ)
with_url urls url = if list_any (bytes_eq url) urls || nat_le 100 (length urls) then urls else urls ++ url ∷ []

-- the first 100 different URLs that are named, in the order in which they are named first
abbrev pub first_urls : List NamingSeen → List (List ℕ)
first_urls namings = fold (λ urls naming. with_url urls naming.url) [] namings

-- what is noted of a trace whose frames are these
abbrev pub noted : List NamingSeen → List UrlNoteSeen
noted namings = map (note_of namings) (first_urls namings)

-- ---- the notes of a rewriting

-- what was noted, and whether memory ran out for some of it
pub record NotesSeen : Type 0 where
  pub notes : List UrlNoteSeen
  pub is_short : Bool
