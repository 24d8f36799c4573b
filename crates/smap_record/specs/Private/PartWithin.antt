-- The numbers of sources and names that a part keeps to.
use Rattle.std.specs.Prelude.{◌≤◌, ◌+◌, ℕ}
use Rattle.std.specs.List.{All}
use Rattle.smap_mappings.specs.Mappings.{mappings_of}
use Rattle.smap_mappings.specs.Within.{IsWithin}
use Rattle.smap_index.specs.declared.part.Part.{Part}

-- the mappings of a part's text name some of the sources and names after its bases, and of those there are this many
pub record IsPartWithin (sources names : ℕ) (part : Part) : Type 0 where
  pub own_sources : ℕ
  pub own_names : ℕ
  pub sources_fit : part.source_base + own_sources ≤ sources
  pub names_fit : part.name_base + own_names ≤ names
  pub text : All (IsWithin own_sources own_names) (mappings_of part.text)
