-- The sections of an index map (ECMA-426, Index source map). This project's own are: that a regular map is the one
-- section of itself, the limits, and that an index map in an index map is refused.
use Rattle.std.specs.Prelude.{ℕ, List, [], ◌∷◌, ◌++◌, Option, Some, None, Result, Ok, Bool, false, is_some, is_none, nat_lt, if◌then◌else◌, length}
use Rattle.std.specs.Prelude.{ok_or, position, option_map, option_and_then, unwrap_or, codes}
use Rattle.std.specs.List.{sum_by}
use Rattle.serde_json.specs.Data.{Data, Members, object}
use Rattle.serde_json.specs.Find.{as_object}
use Rattle.smap_mappings.specs.Limits.{most_indices}
use Rattle.smap_index.specs.Parts.{most_parts}
use Rattle.smap_index.specs.declared.part.Part.{Part}
use Rattle.smap_record.specs.Fields.{Fields, section_fields_of}
use Rattle.smap_record.specs.Json.{field, list_of, number_below}
use Rattle.smap_record.specs.Refusals.{◌>>=◌, unless}
use Rattle.smap_record.specs.Section.{StatedSection, section_in, part_at}
use Rattle.smap_record.specs.Sources.{StatedSources}
use Rattle.smap_record.specs.declared.index_map.Offset.{Offset}
use Rattle.smap_record.specs.declared.refusal.MapRefusal.{MapRefusal}
use Rattle.smap_record.specs.declared.refusal.MapRefusal.TheVariants.{Sections, SectionOffset, Nested}
use Rattle.smap_record.specs.declared.section.SectionPlace.{SectionPlace}

-- ---- an entry of `sections`

-- where it begins, where that is stated right, whether its map is an index map, and the fields of its map
pub record SectionEntry : Type 0 where
  pub offset : Option Offset
  pub is_nested : Bool
  pub fields : Fields

-- the line or the column at a key, a whole number up to the limit
abbrev pub coordinate_in : List ℕ → Members → Option ℕ
coordinate_in key offset = option_and_then (number_below most_indices) (field key (object offset))

abbrev pub offset_in : Members → Option Offset
offset_in offset =
    option_and_then (λ line. option_map (λ column. record { line = line; column = column }) (coordinate_in (codes "column") offset))
    (coordinate_in (codes "line") offset)

-- the object at a key
abbrev pub object_at : List ℕ → Members → Option Members
object_at key members = option_and_then as_object (field key (object members))

-- an entry that begins at this offset and has this map
abbrev pub entry_with : Option Offset → Members → SectionEntry
entry_with offset map = record {
  offset = offset;
  is_nested = is_some (field (codes "sections") (object map));
  fields = section_fields_of (object map);
}

-- the entry with these members, where its `map` is an object
abbrev pub entry_of : Members → Option SectionEntry
entry_of entry = option_map (entry_with (option_and_then offset_in (object_at (codes "offset") entry))) (object_at (codes "map") entry)

abbrev pub entry_in : Data → Option SectionEntry
entry_in value = option_and_then entry_of (as_object value)

-- ---- the entries of a map

-- those of an index map, whose `sections` are this, where it is a list of no more than an index has parts
abbrev pub index_entries : Data → Option (List SectionEntry)
index_entries sections =
    option_and_then (λ entries. if nat_lt most_parts (length entries) then None else Some entries) (list_of entry_in sections)

-- the start of a map
abbrev pub start : Offset
start = record { line = 0; column = 0 }

-- the one entry of a regular map: it begins at the start
abbrev pub regular_entry : Fields → SectionEntry
regular_entry fields = record { offset = Some start; is_nested = false; fields = fields }

-- those of a map with these `sections`, if any, and these fields of its own, which an index map's are not read
abbrev pub entries_of : Option Data → Fields → Option (List SectionEntry)
entries_of None fields = Some (regular_entry fields ∷ [])
entries_of (Some sections) fields = index_entries sections

-- where it begins is not stated right
abbrev pub has_no_offset : SectionEntry → Bool
has_no_offset entry = is_none entry.offset

-- its map is an index map
abbrev pub is_index_map : SectionEntry → Bool
is_index_map entry = entry.is_nested

-- those of such a map, each of which is asked for its offset before any is for its map
unfoldable pub entries_in : Option Data → Fields → Result (List SectionEntry) MapRefusal
entries_in sections fields = do
  entries ← ok_or (entries_of sections fields) Sections
  placed ← unless (option_map SectionOffset (position has_no_offset entries)) entries
  unless (option_map Nested (position is_index_map placed)) placed

-- ---- the sections

-- what the sections of a map state: their parts of the index, what each states of its sources, and the names of all
pub record StatedSections : Type 0 where
  pub parts : List Part
  pub sources : List StatedSources
  pub names : List (List ℕ)

abbrev pub no_sections : StatedSections
no_sections = record { parts = []; sources = []; names = [] }

-- how many sources sections have
abbrev pub source_count : List StatedSources → ℕ
source_count sections = sum_by (λ sources. length sources.texts) sections

-- the place of an entry after these sections
abbrev pub place_after : StatedSections → SectionEntry → SectionPlace
place_after before entry = record {
  number = length before.parts;
  line = (unwrap_or entry.offset start).line;
  column = (unwrap_or entry.offset start).column;
  source_base = source_count before.sources;
  name_base = length before.names;
}

-- these sections, and one at this place after them
abbrev pub with_section : StatedSections → SectionPlace → StatedSection → StatedSections
with_section before place section = record {
  parts = before.parts ++ part_at place section.text ∷ [];
  sources = before.sources ++ section.sources ∷ [];
  names = before.names ++ section.names;
}

-- these sections, and those that entries are, one after another
unfoldable pub sections_after : StatedSections → List SectionEntry → Result StatedSections MapRefusal
sections_after before [] = Ok before
sections_after before (entry ∷ entries) = do
  section ← section_in (place_after before entry) entry.fields
  sections_after (with_section before (place_after before entry) section) entries
