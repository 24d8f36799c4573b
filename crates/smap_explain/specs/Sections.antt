-- The sections of a map file, and the lists in them, where they stand in its JSON value. A regular map is the one section of
-- itself.
use Rattle.std.specs.Prelude.{ℕ, List, [], ◌∷◌, Option, Some, None, ◌==◌, if◌then◌else◌, length, option_map, option_and_then, slice_get, codes}
use Rattle.std.specs.Option.{option_map_or}
use Rattle.serde_json.specs.Data.{Data, Items, no_items, item, Members, object}
use Rattle.serde_json.specs.Find.{as_array, as_object, as_str}
use Rattle.smap_record.specs.IndexMap.{object_at}
use Rattle.smap_record.specs.Json.{field}

-- the items, in order
abbrev pub listed : Items → List Data
listed no_items = []
listed (item value items) = value ∷ listed items

-- those of a value that is a list
abbrev pub list_in : Data → Option (List Data)
list_in value = option_map listed (as_array value)

-- what stands at a key of a map, where it is not null
abbrev pub field_of : List ℕ → Members → Option Data
field_of key entries = field key (object entries)

-- how many items the list at a key has, and 0 where there is none
abbrev pub count_at : List ℕ → Members → ℕ
count_at key entries = option_map_or length (option_and_then list_in (field_of key entries)) 0

-- the map of an entry of `sections`
abbrev pub map_of : Data → Option Members
map_of section = option_and_then (object_at (codes "map")) (as_object section)

-- the entry with this number, from 0
abbrev pub entry_at : ℕ → Data → Option Data
entry_at number sections = option_and_then (λ entries. slice_get entries number) (list_in sections)

-- the map of the section with this number, where these are the `sections`, if any
abbrev pub map_in : Members → ℕ → Option Data → Option Members
map_in entries number None = if number == 0 then Some entries else None
map_in entries number (Some sections) = option_and_then map_of (entry_at number sections)

abbrev pub section_map : Members → ℕ → Option Members
section_map entries number = map_in entries number (field_of (codes "sections") entries)

-- how many sections there are
abbrev pub section_count : Members → ℕ
section_count entries = option_map_or (λ sections. option_map_or length (list_in sections) 0) (field_of (codes "sections") entries) 1

-- the mappings text of a map
abbrev pub mappings_text : Members → Option (List ℕ)
mappings_text entries = option_and_then as_str (field_of (codes "mappings") entries)
