-- What is left of a walk through mappings in order: the last that was passed, and those that come.
use Rattle.std.specs.Prelude.{◌≡◌, ℕ, List, ◌∷◌, Option, Some, None}
use Rattle.smap_mappings.specs.Order.{IsAtOrBefore}
use Rattle.smap_mappings.specs.Range.{position_at}
use Rattle.smap_mappings.specs.declared.mapping.Mapping.{Mapping}
use Rattle.smap_fit.specs.Owners.{owner_at}

-- the next one, if there is one, and those behind it
abbrev pub with_next : Option Mapping → List Mapping → List Mapping
with_next None rest = rest
with_next (Some next) rest = next ∷ rest

-- from this position on both lists have the same owners
abbrev pub OwnsAlike : (line column : ℕ) (a b : List Mapping) → Type 0
OwnsAlike line column a b = (l c : ℕ) → IsAtOrBefore (position_at line column) (position_at l c) → owner_at a l c ≡ owner_at b l c
