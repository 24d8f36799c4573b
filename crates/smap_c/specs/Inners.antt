-- The maps of the sources of a map, at place s that of source s, where it has one.
use Rattle.std.specs.Prelude.{ℕ, Bool, false, List, Option, None, Box, is_none, map, option_map, replicate, slice_get, unwrap_or}
use Rattle.std.specs.Option.{option_flatten, option_map_or}
use Rattle.smap_record.specs.MapFile.{Map}
use Rattle.smap_record.specs.Record.{MapRecord}

-- the maps in these boxes
abbrev pub maps_held : {A : Type 0} → List (Option (Box Map A)) → List (Option Map)
maps_held places = map (option_map (λ place. place.value)) places

-- what they state
abbrev pub stated_maps : List (Option Map) → List (Option MapRecord)
stated_maps inners = map (option_map (λ inner. inner.stated)) inners

-- that of a source
abbrev pub map_at : List (Option Map) → (source : ℕ) → Option Map
map_at inners source = option_flatten (slice_get inners source)

-- the source has a place, and no map
abbrev pub is_free : List (Option Map) → (source : ℕ) → Bool
is_free inners source = option_map_or is_none (slice_get inners source) false

-- ---- places for them

-- the places of the sources of a map: of the outer one or, once that was composed, of what it came to
pub record Places : Type 0 where
  -- what the outer map was composed to
  pub whole : Option Map
  -- by source, the source whose map it comes from, where it comes from one
  pub leads : List (Option ℕ)
  -- the sources before this one were asked for
  pub asked : ℕ
  pub maps : List (Option Map)

-- the places of so many sources of an outer map, none of which has a map
abbrev pub no_maps : (sources : ℕ) → Places
no_maps sources = record { whole = None; leads = replicate sources None; asked = 0; maps = replicate sources None }

-- the map whose sources they are of
abbrev pub whole_of : Map → Places → Map
whole_of outer places = unwrap_or places.whole outer
