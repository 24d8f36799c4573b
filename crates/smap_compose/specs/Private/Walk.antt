-- A walk through the mappings of a map, while positions are asked.
use Rattle.std.specs.Prelude.{◌≡◌, ℕ, Bool, true, not, List, [], ◌++◌, Option, Some, None, ◌==◌, if◌then◌else◌, IfNone, length, slice_get}
use Rattle.std.specs.List.{All, last_or, cons_option}
use Rattle.smap_mappings.specs.Range.{position_at, stands_before}
use Rattle.smap_mappings.specs.declared.mapping.Mapping.{Mapping}
use Rattle.smap_mappings.specs.declared.mapping.Origin.{Origin}
use Rattle.smap_index.specs.Parts.{joined}
use Rattle.smap_index.specs.declared.answer.Answer.{Answer}
use Rattle.smap_index.specs.declared.answer.Answer.TheVariants.{Nothing, Unmapped, Found}
use Rattle.smap_mappings.specs.Order.{IsInOrder}
use Rattle.smap_record.specs.Record.{MapRecord}
use Rattle.smap_mappings.specs.Within.{IsWithin}
use Rattle.smap_compose.specs.declared.placed.InnerMaps.{InnerMaps}
use Rattle.smap_compose.specs.declared.placed.PlacedMap.{PlacedMap}
use Rattle.smap_compose.specs.declared.walk.SourceWalk.{SourceWalk}
use Rattle.smap_compose.specs.declared.walk.Walk.{Walk}

-- the mappings of the map are those that were passed, the next one, where there is one, and those after it
pub record IsWalkThrough (stated : MapRecord) (walk : Walk) : Type 0 where
  pub ordered : IsInOrder (joined stated.parts)
  pub front : List Mapping
  pub whole : front ++ cons_option walk.next walk.left ≡ joined stated.parts
  pub before : walk.before ≡ last_or None front
  pub ended : IfNone walk.next (walk.left ≡ [])
  pub within : All (IsWithin (length stated.sources) (length stated.names)) (joined stated.parts)

-- the walk is one through the inner map of its source, where that has one
abbrev pub IsWalkIn : InnerMaps → SourceWalk → Type 0
IsWalkIn inners walk = (inner : PlacedMap) → slice_get inners.maps.items walk.source ≡ Some (Some inner) → IsWalkThrough inner.map.now.stated walk.walk

-- where it is of this source, it is one through this map
abbrev pub IsWalkOf : MapRecord → (source : ℕ) → SourceWalk → Type 0
IsWalkOf stated source walk = walk.source ≡ source → IsWalkThrough stated walk.walk

-- the origin of an answer, where it has one
abbrev pub origin_in : Answer → Option Origin
origin_in Nothing = None
origin_in (Unmapped column) = None
origin_in (Found column origin) = Some origin

-- the origin of a mapping, where it stands on this line
abbrev pub origin_on : (line : ℕ) → Option Mapping → Option Origin
origin_on line None = None
origin_on line (Some mapping) = if mapping.line == line then mapping.origin else None

-- no mapping, or one that does not stand after a position
abbrev pub stands_up_to : (line column : ℕ) → Option Mapping → Bool
stands_up_to line column None = true
stands_up_to line column (Some mapping) = not (stands_before (position_at line column) mapping)
