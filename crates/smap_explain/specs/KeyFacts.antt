-- What stands at the key for which a map file is refused, and what may stand there (ECMA-426, Source map format and Index
-- source map). A key at null counts as absent, and is reported as null.
use Rattle.std.specs.Prelude.{ℕ, Option, Some, None, Bool, false, is_some, is_none, if◌then◌else◌, option_map, option_and_then, position, slice_get, codes}
use Rattle.std.specs.Option.{option_map_or, option_or}
use Rattle.serde_json.specs.Data.{Data, Members}
use Rattle.serde_json.specs.Find.{as_object, as_str, get_member}
use Rattle.smap_mappings.specs.Limits.{limit}
use Rattle.smap_record.specs.IndexMap.{coordinate_in, object_at}
use Rattle.smap_record.specs.declared.refusal.MapRefusal.{MapRefusal}
use Rattle.smap_record.specs.declared.refusal.MapRefusal.TheVariants as refusals
use Rattle.smap_explain.specs.Found.{FoundSeen, found, found_seen}
use Rattle.smap_explain.specs.Rule.{asked_key, key_of, key_text, most_in, rule_of, wrong_in}
use Rattle.smap_explain.specs.Sections.{entry_at, field_of, list_in, map_of, section_map}
use Rattle.smap_explain.specs.declared.explanation.Key.{Key}
use Rattle.smap_explain.specs.declared.explanation.Key.TheVariants as shown
use Rattle.smap_explain.specs.declared.explanation.KeyFacts.{KeyFacts}
use Rattle.smap_explain.specs.declared.key_place.KeyPlace.{KeyPlace}
use Rattle.smap_explain.specs.declared.rule.MapKey.{MapKey}
use Rattle.smap_explain.specs.declared.rule.MapKey.TheVariants as keys
use Rattle.smap_explain.specs.declared.rule.Wrong.{Wrong}
use Rattle.smap_explain.specs.declared.rule.Wrong.TheVariants as wrongs

-- ---- what is reported

-- a `KeyFacts`, its text as its bytes
pub record KeySeen : Type 0 where
  pub place : KeyPlace
  pub found : FoundSeen

abbrev pub place_of : KeyFacts → KeyPlace
place_of facts = record { key = facts.key; section = facts.section; index = facts.index; most = facts.most }

abbrev pub key_seen : KeyFacts → KeySeen
key_seen facts = record { place = place_of facts; found = found_seen facts.found }

-- what stands at a place, or that nothing does
abbrev pub key_reported : KeyPlace → Option Data → KeySeen
key_reported place value = record { place = place; found = found value }

-- a key of the outer object
abbrev pub at_key : Key → KeyPlace
at_key key = record { key = key; section = None; index = None; most = None }

-- an item of the list at such a key
abbrev pub at_item : Key → ℕ → KeyPlace
at_item key index = record { key = key; section = None; index = Some index; most = None }

-- a key of a section
abbrev pub in_section : Key → ℕ → KeyPlace
in_section key section = record { key = key; section = Some section; index = None; most = None }

-- a line or a column of a section's offset
abbrev pub in_offset : Key → ℕ → KeyPlace
in_offset key section = record { key = key; section = Some section; index = None; most = Some limit }

-- ---- the outer object

abbrev pub version_facts : Members → KeySeen
version_facts entries = key_reported (at_key shown.Version) (get_member (codes "version") entries)

-- `file`, where it is no text
abbrev pub wrong_file : Data → Option KeySeen
wrong_file value = if is_some (as_str value) then None else Some (key_reported (at_key shown.File) (Some value))

abbrev pub file_facts : Members → Option KeySeen
file_facts entries = option_and_then wrong_file (field_of (codes "file") entries)

-- ---- the list of sections

abbrev pub has_no_map : Data → Bool
has_no_map section = is_none (map_of section)

-- the number of the first entry that has no map
abbrev pub first_without_map : Data → Option ℕ
first_without_map sections = option_and_then (position has_no_map) (list_in sections)

abbrev pub map_facts : ℕ → Members → KeySeen
map_facts number section = key_reported (in_section shown.Map number) (get_member (codes "map") section)

-- an entry that has no map: what stands at `map`, or the entry itself, where it is no object
abbrev pub entry_facts : ℕ → Data → KeySeen
entry_facts number section =
    option_map_or (map_facts number) (as_object section) (key_reported (at_item shown.Sections number) (Some section))

-- the first entry that has no map; where there is none, the list itself, or what stands there in its stead
abbrev pub sections_where : Data → Option ℕ → Option KeySeen
sections_where sections None = Some (key_reported (at_key shown.Sections) (Some sections))
sections_where sections (Some number) = option_map (entry_facts number) (entry_at number sections)

abbrev pub facts_in_list : Data → Option KeySeen
facts_in_list sections = sections_where sections (first_without_map sections)

abbrev pub sections_facts : Members → Option KeySeen
sections_facts entries = option_and_then facts_in_list (field_of (codes "sections") entries)

-- ---- a section's offset and its map

-- the members of the section with this number
abbrev pub section_entry : Members → ℕ → Option Members
section_entry entries number = option_and_then as_object (option_and_then (entry_at number) (field_of (codes "sections") entries))

-- the line is one that an offset may have
abbrev pub has_line : Members → Bool
has_line offset = is_some (coordinate_in (codes "line") offset)

-- the line, where it is none, and else the column
abbrev pub coordinate_facts : ℕ → Members → KeySeen
coordinate_facts number offset =
    if has_line offset
    then key_reported (in_offset shown.OffsetColumn number) (get_member (codes "column") offset)
    else key_reported (in_offset shown.OffsetLine number) (get_member (codes "line") offset)

abbrev pub section_offset_facts : ℕ → Members → KeySeen
section_offset_facts number section =
    option_map_or (coordinate_facts number) (object_at (codes "offset") section)
    (key_reported (in_section shown.Offset number) (get_member (codes "offset") section))

abbrev pub offset_facts : Members → ℕ → Option KeySeen
offset_facts entries number = option_map (section_offset_facts number) (section_entry entries number)

abbrev pub nested_map_facts : ℕ → Members → KeySeen
nested_map_facts number map = key_reported (in_section shown.NestedSections number) (get_member (codes "sections") map)

abbrev pub nested_facts : Members → ℕ → Option KeySeen
nested_facts entries number = option_map (nested_map_facts number) (section_map entries number)

-- ---- a key of a section's map

abbrev pub index_of : Wrong → Option ℕ
index_of wrongs.Value = None
index_of (wrongs.Item index) = Some index

abbrev pub wrong_place : Option ℕ → MapKey → Members → Wrong → KeyPlace
wrong_place section key map wrong =
    record { key = key_of key; section = section; index = index_of wrong; most = most_in wrong (rule_of key map) }

-- an item of the list at a key
abbrev pub item_at : MapKey → Members → ℕ → Option Data
item_at key map index = option_and_then (λ items. slice_get items index) (option_and_then list_in (field_of (key_text key) map))

-- the value that is wrong, or the item of it
abbrev pub wrong_at : MapKey → Members → Wrong → Option Data
wrong_at key map wrongs.Value = get_member (key_text key) map
wrong_at key map (wrongs.Item index) = item_at key map index

-- what is wrong at a key of a map
abbrev pub wrong_facts : Option ℕ → MapKey → Members → Option KeySeen
wrong_facts section key map = option_map (λ wrong. key_reported (wrong_place section key map wrong) (wrong_at key map wrong)) (wrong_in key map)

-- and at the key that is asked
abbrev pub asked_facts : Option ℕ → MapKey → Members → Option KeySeen
asked_facts section key map = wrong_facts section (asked_key key map) map

abbrev pub is_wrong : MapKey → Members → Bool
is_wrong key map = is_some (wrong_in (asked_key key map) map)

abbrev pub has_wrong : MapKey → Data → Bool
has_wrong key section = option_map_or (is_wrong key) (map_of section) false

-- the number of the first section in whose map something is wrong at a key
abbrev pub first_wrong : MapKey → Data → Option ℕ
first_wrong key sections = option_and_then (position (has_wrong key)) (list_in sections)

-- the map of an entry
abbrev pub map_at : ℕ → Data → Option Members
map_at number sections = option_and_then map_of (entry_at number sections)

abbrev pub wrong_in_section : MapKey → Data → ℕ → Option KeySeen
wrong_in_section key sections number = option_and_then (asked_facts (Some number) key) (map_at number sections)

abbrev pub wrong_in_sections : MapKey → Data → Option KeySeen
wrong_in_sections key sections = option_and_then (wrong_in_section key sections) (first_wrong key sections)

-- a regular map is the one section of itself, and has no number
abbrev pub map_key_where : MapKey → Members → Option Data → Option KeySeen
map_key_where key entries None = asked_facts None key entries
map_key_where key entries (Some sections) = wrong_in_sections key sections

abbrev pub map_key_facts : MapKey → Members → Option KeySeen
map_key_facts key entries = map_key_where key entries (field_of (codes "sections") entries)

-- ---- by the refusal

-- what stands at the key for which a map with these members is refused so; nothing where the refusal is of no key
unfoldable pub key_facts : Members → MapRefusal → Option KeySeen
key_facts entries refusals.TooLarge = None
key_facts entries refusals.NotJson = None
key_facts entries refusals.NotObject = None
key_facts entries refusals.Version = Some (version_facts entries)
key_facts entries refusals.Sections = sections_facts entries
key_facts entries (refusals.SectionOffset number) = offset_facts entries number
key_facts entries (refusals.Nested number) = nested_facts entries number
key_facts entries refusals.Sources = map_key_facts keys.Sources entries
key_facts entries refusals.Names = map_key_facts keys.Names entries
key_facts entries refusals.SourcesContent = map_key_facts keys.SourcesContent entries
key_facts entries refusals.IgnoreList = map_key_facts keys.IgnoreList entries
key_facts entries refusals.FileOrRoot = option_or (file_facts entries) (map_key_facts keys.SourceRoot entries)
key_facts entries refusals.Mappings = map_key_facts keys.Mappings entries
key_facts entries (refusals.Text number fault) = None
key_facts entries (refusals.Build refusal) = None
key_facts entries refusals.Url = None
key_facts entries refusals.Memory = None
key_facts entries refusals.LongNames = None
