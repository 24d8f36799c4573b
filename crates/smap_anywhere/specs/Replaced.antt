-- What stands in the stead of places, over maps (this project's own).
use Rattle.std.specs.Prelude.{ℕ, ◌==◌, ◌||◌, Bool, false, true, List, [], ◌∷◌, Option, Some, None, is_some, if◌then◌else◌, unwrap_or}
use Rattle.std.specs.List.{flat_map, list_any}
use Rattle.smap_record.specs.Record.{MapRecord}
use Rattle.smap_trace.specs.Rewritten.{SourceLocation, location_text, original_at}
use Rattle.smap_anywhere.specs.Parts.{Part, PlaceUrl, found, other}

-- ---- a place

-- a quotation mark or a backslash, which could end the string of a JSON text, or begin an escape in it
abbrev pub is_quoting : ℕ → Bool
is_quoting byte = byte == 34 || byte == 92

-- a name that can stand anywhere in a text, also in a string of JSON
abbrev pub quotable : Option (List ℕ) → Option (List ℕ)
quotable None = None
quotable (Some name) = if list_any is_quoting name then None else Some name

-- what stands in the stead of a place from this location, if its source has this name
abbrev pub text_named : SourceLocation → (name : Option (List ℕ)) → Option (List ℕ)
text_named original None = None
text_named original (Some name) = Some (location_text name original.line original.column)

abbrev pub text_of_original : Option SourceLocation → Option (List ℕ)
text_of_original None = None
text_of_original (Some original) = text_named original (quotable original.name)

-- what stands in the stead of this line and column of a map, where there is one
abbrev pub text_in : Option MapRecord → (line column : ℕ) → Option (List ℕ)
text_in None line column = None
text_in (Some stated) line column = text_of_original (original_at stated line column)

-- what stands in a place's stead, if the map of its URL has an original for it, in a source whose name can stand anywhere: the
-- name, `:`, the line, `:`, the column
unfoldable pub replacement : (map : Option MapRecord) → PlaceUrl → Option (List ℕ)
replacement map place = text_in map place.line place.column

-- what is found under a URL: what stands in the stead of a place by it, and whether it is a map
pub record Replacing (F : Type 0) : Type 0 where
  pub text : F → PlaceUrl → Option (List ℕ)
  pub has : F → Bool

-- a map, or none
abbrev pub by_maps : Replacing (Option MapRecord)
by_maps = record { text = replacement; has = is_some }

-- ---- a text

-- what becomes of a part of a text, where a function gives what is found under URLs
abbrev pub part_text_by : {F : Type 0} → Replacing F → (under : List ℕ → F) → Part → List ℕ
part_text_by by under (other byte) = byte ∷ []
part_text_by by under (found place text) = unwrap_or (by.text (under place.url) place) text

abbrev pub parts_text_by : {F : Type 0} → Replacing F → (under : List ℕ → F) → List Part → List ℕ
parts_text_by by under parts = flat_map (part_text_by by under) parts

-- where these are the maps of URLs
abbrev pub part_text : (maps : List ℕ → Option MapRecord) → Part → List ℕ
part_text = part_text_by by_maps

abbrev pub parts_text : (maps : List ℕ → Option MapRecord) → List Part → List ℕ
parts_text = parts_text_by by_maps

-- ---- what is counted

abbrev pub is_place : Part → Bool
is_place (other byte) = false
is_place (found place text) = true

-- the place is replaced
abbrev pub is_replaced_by : {F : Type 0} → Replacing F → (under : List ℕ → F) → Part → Bool
is_replaced_by by under (other byte) = false
is_replaced_by by under (found place text) = is_some (by.text (under place.url) place)
