-- What the code's own values stand for.
use Rattle.std.specs.Prelude.{ℕ, List, Option, Some, None, map, option_map, String, string_bytes}
use Rattle.std.specs.declared.alloc.Global.{Global}
use Rattle.serde_json.specs.Data.{Data, Members, object, put}
use Rattle.serde_json.specs.View.{members_view, view}
use Rattle.serde_json.specs.declared.value.Value.{Value}
use Rattle.smap_record.specs.Fields as spec
use Rattle.smap_record.specs.IndexMap as entry
use Rattle.smap_record.specs.IndexMap.{StatedSections}
use Rattle.smap_record.specs.Outer.{StatedOuter}
use Rattle.smap_record.specs.Section.{StatedSection}
use Rattle.smap_record.specs.Sources.{StatedSources}
use Rattle.smap_record.specs.declared.fields.SectionFields.{SectionFields}
use Rattle.smap_record.specs.declared.index_map.SectionEntry.{SectionEntry}
use Rattle.smap_record.specs.declared.joined.JoinedSections.{JoinedSections}
use Rattle.smap_record.specs.declared.outer.Outer.{Outer}
use Rattle.smap_record.specs.declared.section.SectionMap.{SectionMap}
use Rattle.smap_record.specs.declared.section.SectionSources.{SectionSources}

-- texts that are there or not
abbrev pub texts_seen : List (Option (String Global)) → List (Option (List ℕ))
texts_seen texts = map (option_map string_bytes) texts

-- the fields of the map with these members
abbrev pub fields_seen : List (String Global × Value) → spec.Fields
fields_seen members = spec.section_fields_of (object (members_view members))

abbrev pub taken_seen : SectionFields → spec.Fields
taken_seen fields = record {
  sources = option_map view fields.sources;
  names = option_map view fields.names;
  contents = option_map view fields.contents;
  ignored = option_map view fields.ignored;
  root = option_map view fields.root;
  mappings = option_map view fields.mappings;
}

-- ---- the outer object

abbrev pub entry_seen : SectionEntry → entry.SectionEntry
entry_seen section = record { offset = section.offset; is_nested = section.is_nested; fields = fields_seen section.members.entries }

abbrev pub entries_seen : List SectionEntry → List entry.SectionEntry
entries_seen entries = map entry_seen entries

abbrev pub outer_seen : Outer → StatedOuter
outer_seen fields = record { entries = entries_seen fields.entries.items; file = option_map string_bytes fields.file }

-- ---- a section

abbrev pub sources_seen : SectionSources → StatedSources
sources_seen sources = record {
  root = option_map string_bytes sources.root;
  texts = texts_seen sources.texts.items;
  contents = texts_seen sources.contents.items;
  ignored = sources.ignored.items;
}

abbrev pub section_seen : SectionMap → StatedSection
section_seen section = record { sources = sources_seen section.sources; names = map string_bytes section.names.items; text = section.text }

-- ---- all sections

abbrev pub sections_seen : JoinedSections → StatedSections
sections_seen joined = record { parts = joined.parts.items; sources = map sources_seen joined.sources.items; names = map string_bytes joined.names.items }

-- ---- a written map

-- the members with a value at a key, where there is one
abbrev pub put_where : List ℕ → Option Data → Members → Members
put_where key None members = members
put_where key (Some value) members = put key value members
