-- What the map of one section states (ECMA-426, Source map format), or why it is refused. A regular map is the one
-- section of itself.
use Rattle.std.specs.Prelude.{ℕ, ◌+◌, List, [], Option, Some, None, Bool, Result, Ok, nat_lt, if◌then◌else◌, length, ok_or, option_map, option_and_then}
use Rattle.serde_json.specs.Data.{Data}
use Rattle.serde_json.specs.Find.{as_str}
use Rattle.smap_mappings.specs.Faults.{first_fault}
use Rattle.smap_mappings.specs.Limits.{most_text_bytes}
use Rattle.smap_index.specs.declared.part.Part.{Part}
use Rattle.smap_record.specs.Fields.{Fields}
use Rattle.smap_record.specs.Ignored.{ignored_flags}
use Rattle.smap_record.specs.Json.{or_absent, number_below, text_or_null, list_of}
use Rattle.smap_record.specs.Limits.{most_listed}
use Rattle.smap_record.specs.Refusals.{◌>>=◌, unless}
use Rattle.smap_record.specs.Sources.{StatedSources}
use Rattle.smap_record.specs.declared.refusal.MapRefusal.{MapRefusal}
use Rattle.smap_record.specs.declared.refusal.MapRefusal.TheVariants.{Sources, Names, SourcesContent, IgnoreList, FileOrRoot, Mappings, Text}
use Rattle.smap_record.specs.declared.section.SectionPlace.{SectionPlace}

-- ---- what a field states

-- a list with which there are no more entries than a map may list, where this many stand before it
abbrev pub few : {A : Type 0} → ℕ → List A → Option (List A)
few before entries = if nat_lt most_listed (before + length entries) then None else Some entries

-- the sources, each a text or none
abbrev pub sources_in : ℕ → Option Data → Result (List (Option (List ℕ))) MapRefusal
sources_in before sources = ok_or (option_and_then (few before) (option_and_then (list_of text_or_null) sources)) Sources

-- the names; absent means none
abbrev pub names_in : ℕ → Option Data → Result (List (List ℕ)) MapRefusal
names_in before names = ok_or (option_and_then (few before) (or_absent [] (list_of as_str) names)) Names

-- the texts of the sources, each there or not; absent means none
abbrev pub contents_in : Option Data → Result (List (Option (List ℕ))) MapRefusal
contents_in contents = ok_or (or_absent [] (list_of text_or_null) contents) SourcesContent

-- which of this many sources are ignored, by the list of their indices; absent means none
abbrev pub ignored_in : ℕ → Option Data → Result (List Bool) MapRefusal
ignored_in sources ignored = ok_or (option_map (ignored_flags sources) (or_absent [] (list_of (number_below sources)) ignored)) IgnoreList

-- the `sourceRoot`, or the name of the generated file; either may be absent
abbrev pub text_in : Option Data → Result (Option (List ℕ)) MapRefusal
text_in text = ok_or (or_absent None (λ value. option_map Some (as_str value)) text) FileOrRoot

-- a text that is no longer than a mappings text may be
abbrev pub short_text : Data → Option (List ℕ)
short_text value = option_and_then (λ text. if nat_lt most_text_bytes (length text) then None else Some text) (as_str value)

-- the mappings text of the section with this number, which has no fault for this many sources and names
unfoldable pub mappings_in : ℕ → ℕ → ℕ → Option Data → Result (List ℕ) MapRefusal
mappings_in number sources names mappings = do
  text ← ok_or (option_and_then short_text mappings) Mappings
  unless (option_map (Text number) (first_fault text sources names)) text

-- ---- a section

-- what a section's map states of its sources, and its names and its mappings text
pub record StatedSection : Type 0 where
  pub sources : StatedSources
  pub names : List (List ℕ)
  pub text : List ℕ

-- the section at this place, whose map has these fields
unfoldable pub section_in : SectionPlace → Fields → Result StatedSection MapRefusal
section_in place fields = do
  texts ← sources_in place.source_base fields.sources
  names ← names_in place.name_base fields.names
  contents ← contents_in fields.contents
  ignored ← ignored_in (length texts) fields.ignored
  root ← text_in fields.root
  text ← mappings_in place.number (length texts) (length names) fields.mappings
  Ok (record {
    sources = record { root = root; texts = texts; contents = contents; ignored = ignored };
    names = names;
    text = text;
  })

-- the part of the index that a section at this place with this text is
abbrev pub part_at : SectionPlace → List ℕ → Part
part_at place text = record {
  line = place.line;
  column = place.column;
  text = text;
  source_base = place.source_base;
  name_base = place.name_base;
}
