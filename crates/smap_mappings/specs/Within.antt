-- What each mapping of a checked text keeps to: its numbers are at most the limit, and its indices name sources and
-- names that there are.
use Rattle.std.specs.Prelude.{ℕ, ◌<◌, ◌≤◌, IfSome}
use Rattle.smap_mappings.specs.Limits.{limit}
use Rattle.smap_mappings.specs.declared.mapping.Mapping.{Mapping}
use Rattle.smap_mappings.specs.declared.mapping.Origin.{Origin}

-- the index names one of this many, and is at most the limit
pub record IsIndexWithin (many index : ℕ) : Type 0 where
  pub named : index < many
  pub small : index ≤ limit

-- an origin's indices name one of these many sources and names, and its line and column are at most the limit
pub record IsOriginWithin (sources names : ℕ) (origin : Origin) : Type 0 where
  pub source : IsIndexWithin sources origin.source
  pub line : origin.line ≤ limit
  pub column : origin.column ≤ limit
  pub name : IfSome origin.name (IsIndexWithin names)

-- a mapping's line and column are at most the limit, and its origin, where it has one, is within these counts
pub record IsWithin (sources names : ℕ) (mapping : Mapping) : Type 0 where
  pub line : mapping.line ≤ limit
  pub column : mapping.column ≤ limit
  pub origin : IfSome mapping.origin (IsOriginWithin sources names)
