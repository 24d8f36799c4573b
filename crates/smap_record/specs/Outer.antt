-- The outer object of a map file (ECMA-426, Source map format): its version, its sections, and the name of the generated
-- file. Nothing else of an index map's outer object is read.
use Rattle.std.specs.Prelude.{ℕ, List, Option, Bool, false, ◌==◌, if◌then◌else◌, Result, Ok, Err, option_and_then, codes}
use Rattle.std.specs.Option.{option_map_or}
use Rattle.serde_json.specs.Data.{Data}
use Rattle.smap_record.specs.Fields.{section_fields_of}
use Rattle.smap_record.specs.IndexMap.{SectionEntry, entries_in}
use Rattle.smap_record.specs.Json.{field, whole_number}
use Rattle.smap_record.specs.Refusals.{◌>>=◌}
use Rattle.smap_record.specs.Section.{text_in}
use Rattle.smap_record.specs.declared.refusal.MapRefusal.{MapRefusal}
use Rattle.smap_record.specs.declared.refusal.MapRefusal.TheVariants.{Version}

-- whether a field is the whole number 3
abbrev pub is_three : Option Data → Bool
is_three version = option_map_or (λ number. number == 3) (option_and_then whole_number version) false

abbrev pub version_in : Option Data → Result ℕ MapRefusal
version_in version = if is_three version then Ok 3 else Err Version

-- what the outer object states
pub record StatedOuter : Type 0 where
  pub entries : List SectionEntry
  pub file : Option (List ℕ)

unfoldable pub outer_in : Data → Result StatedOuter MapRefusal
outer_in value = do
  version ← version_in (field (codes "version") value)
  entries ← entries_in (field (codes "sections") value) (section_fields_of value)
  file ← text_in (field (codes "file") value)
  Ok (record { entries = entries; file = file })
