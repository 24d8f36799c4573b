-- Marks of the sources and the names that mappings have.
use Rattle.std.specs.Prelude.{◌≡◌, ℕ, ◌==◌, ◌||◌, List, false, length}
use Rattle.std.specs.Option.{option_map_or}
use Rattle.smap_mappings.specs.declared.mapping.Mapping.{Mapping}
use Rattle.smap_mappings.specs.declared.mapping.Origin.{Origin}
use Rattle.smap_compose.specs.Pruned.{is_name_used, is_source_used}
use Rattle.smap_compose.specs.Private.Left.{is_marked}
use Rattle.smap_compose.specs.declared.used.UsedEntries.{UsedEntries}

-- of so many sources and names, these are marked that a mapping has
pub record AreUsed (sources names : ℕ) (mappings : List Mapping) (used : UsedEntries) : Type 0 where
  pub many_sources : length used.sources.items ≡ sources
  pub many_names : length used.names.items ≡ names
  pub sources_are : (i : ℕ) → is_marked used.sources.items i ≡ is_source_used mappings i
  pub names_are : (i : ℕ) → is_marked used.names.items i ≡ is_name_used mappings i

-- what an origin has is marked too, and no more
pub record UsesMore (old : UsedEntries) (origin : Origin) (new : UsedEntries) : Type 0 where
  pub many_sources : length new.sources.items ≡ length old.sources.items
  pub many_names : length new.names.items ≡ length old.names.items
  pub source : (i : ℕ) → is_marked new.sources.items i ≡ (origin.source == i || is_marked old.sources.items i)
  pub name : (i : ℕ) → is_marked new.names.items i ≡ (option_map_or (λ name. name == i) origin.name false || is_marked old.names.items i)
