-- By what sources are compared in code, and what becomes of an origin and of its mapping.
use Rattle.std.specs.Borrow.{Bor}
use Rattle.std.specs.Prelude.{ℕ, Bool, List, Option, Some, option_map, slice_index}
use Rattle.smap_mappings.specs.declared.mapping.Mapping.{Mapping}
use Rattle.smap_mappings.specs.declared.mapping.Origin.{Origin}
use Rattle.smap_compose.specs.Follow.{with_origin}
use Rattle.smap_compose.specs.Pruned.{NamedSource}

-- what the key of a source stands for
abbrev pub key_seen : (Option (Bor (List ℕ)) × Option (Bor (List ℕ)) × Bool) → NamedSource
key_seen key = record {
  text = option_map (λ text. text.now) key.0;
  content = option_map (λ content. content.now) key.1;
  ignored = key.2;
}

-- an origin at new places, which stand at the old ones
abbrev pub moved_to : (sources names : List ℕ) → Origin → Origin
moved_to sources names origin = record origin { source = slice_index sources origin.source; name = option_map (slice_index names) origin.name }

abbrev pub mapping_moved_to : (sources names : List ℕ) → Mapping → Mapping
mapping_moved_to sources names = with_origin (λ origin. Some (moved_to sources names origin))
