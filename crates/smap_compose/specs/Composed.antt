-- How the fields of a composed map are seen, and what they keep to. Only the model of `Composed` cites it.
use Rattle.std.specs.Prelude.{◌≡◌, ◌≤◌, None, false, length, map, option_map, string_bytes}
use Rattle.std.specs.List.{All}
use Rattle.smap_mappings.specs.Encode.{is_text_too_long, list_fault}
use Rattle.smap_mappings.specs.Within.{IsWithin}
use Rattle.smap_record.specs.Limits.{most_listed}
use Rattle.smap_record.specs.Sources.{source_of}
use Rattle.smap_compose.specs.Composition.{Composition}
use Rattle.smap_compose.specs.declared.composed.Composed.TheInside.{Inside}

-- what its fields stand for
abbrev pub composed_seen : Inside → Composition
composed_seen inside = record {
  mappings = inside.mappings.items;
  sources = map source_of inside.sources.items;
  names = map string_bytes inside.names.items;
  file = option_map string_bytes inside.file;
}

-- the mappings are in order; a map may have their canonical text, and list as many sources and names
pub record IsComposed (inside : Inside) : Type 0 where
  pub short : is_text_too_long inside.mappings.items ≡ false
  pub no_fault : list_fault inside.mappings.items ≡ None
  pub within : All (IsWithin (length inside.sources.items) (length inside.names.items)) inside.mappings.items
  pub few_sources : length inside.sources.items ≤ most_listed
  pub few_names : length inside.names.items ≤ most_listed
