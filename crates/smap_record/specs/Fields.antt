-- The fields of a section's map that are read (ECMA-426, Source map format). Other keys are ignored.
use Rattle.std.specs.Prelude.{Option, codes}
use Rattle.std.specs.Option.{option_or}
use Rattle.serde_json.specs.Data.{Data}
use Rattle.smap_record.specs.Json.{field}

-- what stands, where it is not null, at the keys that are read of each section's map
pub record Fields : Type 0 where
  pub sources : Option Data
  pub names : Option Data
  pub contents : Option Data
  pub ignored : Option Data
  pub root : Option Data
  pub mappings : Option Data

-- the list of ignored sources: the older key is read where the newer one is absent
abbrev pub ignored_field : Data → Option Data
ignored_field value = option_or (field (codes "ignoreList") value) (field (codes "x_google_ignoreList") value)

abbrev pub section_fields_of : Data → Fields
section_fields_of value = record {
  sources = field (codes "sources") value;
  names = field (codes "names") value;
  contents = field (codes "sourcesContent") value;
  ignored = ignored_field value;
  root = field (codes "sourceRoot") value;
  mappings = field (codes "mappings") value;
}
