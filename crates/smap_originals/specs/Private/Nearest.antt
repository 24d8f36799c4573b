-- The nearest mappings so far, in a walk.
use Rattle.std.specs.Prelude.{◌≡◌, ℕ, List, [], Bool, true, false, ◌==◌, filter, MatchOption}
use Rattle.std.specs.List.{list_any}
use Rattle.smap_mappings.specs.declared.mapping.Mapping.{Mapping}
use Rattle.smap_originals.specs.Generated.{column_of, has_nearer}
use Rattle.smap_originals.specs.declared.asked.OriginalDirection.{OriginalDirection}
use Rattle.smap_originals.specs.declared.nearest.NearestMappings.{NearestMappings}

-- the mapping has this original column
abbrev pub has_column : ℕ → Mapping → Bool
has_column column mapping = column_of mapping.origin == column

-- of these mappings none has a nearer original column than this, and these have it, of which there is one
pub record AreAt (direction : OriginalDirection) (mappings : List Mapping) (column : ℕ) (found : List Mapping) : Type 0 where
  pub some : list_any (has_column column) mappings ≡ true
  pub none_nearer : has_nearer direction mappings column ≡ false
  pub found_are : found ≡ filter (has_column column) mappings

-- those with the nearest original column, where there are any
abbrev pub IsNearestOf : OriginalDirection → List Mapping → NearestMappings → Type 0
IsNearestOf direction mappings nearest =
    MatchOption nearest.column ((mappings ≡ []) × (nearest.mappings.items ≡ [])) (λ column. AreAt direction mappings column nearest.mappings.items)
