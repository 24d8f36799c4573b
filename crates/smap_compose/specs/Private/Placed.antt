-- Inner maps that are placed behind the sources and names of the outer map and of each other.
use Rattle.std.specs.Borrow.{Bor}
use Rattle.std.specs.Prelude.{◌≡◌, ℕ, ◌+◌, ◌≤◌, List, [], ◌∷◌, ◌++◌, Option, length, map, option_map, IfSome}
use Rattle.std.specs.List.{All}
use Rattle.smap_record.specs.Limits.{most_listed}
use Rattle.smap_record.specs.MapFile.{Map}
use Rattle.smap_record.specs.Record.{MapRecord}
use Rattle.smap_compose.specs.Composition.{mappings_of_map}
use Rattle.smap_compose.specs.Follow.{CountedMappings}
use Rattle.smap_compose.specs.FollowAll.{Placed, inner_names, inner_sources, placed}
use Rattle.smap_compose.specs.declared.placed.InnerMaps.{InnerMaps}
use Rattle.smap_compose.specs.declared.placed.PlacedMap.{PlacedMap}

-- what a placed map is
abbrev pub placed_seen : PlacedMap → Placed
placed_seen inner = record {
  mappings = (mappings_of_map inner.map.now.stated).mappings;
  sources_before = inner.sources;
  names_before = inner.names;
}

abbrev pub inners_seen : InnerMaps → List (Option Placed)
inners_seen inners = map (option_map placed_seen) inners.maps.items

-- its sources and names are among so many
pub record FitsIn (sources names : ℕ) (inner : PlacedMap) : Type 0 where
  pub sources_fit : inner.sources + length inner.map.now.stated.sources ≤ sources
  pub names_fit : inner.names + length inner.map.now.stated.names ≤ names

abbrev pub AllFit : InnerMaps → Type 0
AllFit inners = All (λ (inner : Option PlacedMap). IfSome inner (FitsIn inners.sources inners.names)) inners.maps.items

-- all sources and names together are as many as a map may list
pub record AreFew (inners : InnerMaps) : Type 0 where
  pub sources : inners.sources ≤ most_listed
  pub names : inners.names ≤ most_listed

-- the same, and the outer map's are among them
pub record ArePlaced (outer : MapRecord) (inners : InnerMaps) : Type 0 where
  pub few : AreFew inners
  pub own_sources : length outer.sources ≤ inners.sources
  pub own_names : length outer.names ≤ inners.names
  pub fit : AllFit inners

-- ---- placing

-- the inner list of a source
abbrev pub inner_list : Option (Bor Map) → Option CountedMappings
inner_list inner = option_map (λ inner. mappings_of_map inner.now.stated) inner

-- an inner map that stands right behind the outer map
abbrev pub placed_behind : (outer inner : MapRecord) → Placed
placed_behind outer inner = record {
  mappings = (mappings_of_map inner).mappings;
  sources_before = length outer.sources;
  names_before = length outer.names;
}

-- the inner list of the next source is placed behind the others
pub record IsPlacedNext (old : InnerMaps) (inner : Option CountedMappings) (new : InnerMaps) : Type 0 where
  pub list : inners_seen new ≡ inners_seen old ++ placed old.sources old.names (inner ∷ [])
  pub sources : new.sources ≡ old.sources + inner_sources inner
  pub names : new.names ≡ old.names + inner_names inner
  pub fit : AllFit old → AllFit new
