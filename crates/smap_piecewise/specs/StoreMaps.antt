-- The maps of a table, and behind them those that are kept (this project's own).
use Rattle.std.specs.Borrow.{GName}
use Rattle.std.specs.Prelude.{ℕ, ◌&&◌, Bool, true, List, Option, None, Some, if◌then◌else◌}
use Rattle.smap_locations.specs.Paths.{without_query}
use Rattle.smap_declarations.specs.Declarations.{Named}
use Rattle.smap_piecewise.specs.KeptMaps.{Holding, declared_in, holding_of, known_in}
use Rattle.smap_piecewise.specs.Known.{DeclaredByUrl, KnownByUrl, NamedKnown}
use Rattle.smap_piecewise.specs.Location.{is_location}
use Rattle.smap_piecewise.specs.declared.kept_maps.KeptMap.{KeptMap}
use Rattle.smap_piecewise.specs.declared.kept_maps.KeptMaps.{KeptMaps}
use Rattle.smap_piecewise.specs.declared.store_maps.StoreMaps.{StoreMaps}
use Rattle.smap_record.specs.Record.{MapRecord}
use Rattle.smap_store.specs.UrlTable.{UrlTableSeen, declared_under, map_under}

-- where neither has something, a location is not known if maps are asked for, and has none else
abbrev pub unkept : (asks : Bool) → (url : List ℕ) → Option (Option MapRecord)
unkept asks url = if asks && is_location (without_query url) then None else Some None

-- by the map of the table, and by what is kept
abbrev pub known_by : (asks : Bool) → (url : List ℕ) → (of_table : Option MapRecord) → (kept : Option (Option MapRecord)) → Option (Option MapRecord)
known_by asks url (Some map) kept = Some (Some map)
known_by asks url None (Some known) = Some known
known_by asks url None None = unkept asks url

abbrev pub maps_over : (asks : Bool) → UrlTableSeen → KeptMaps → KnownByUrl
maps_over asks table maps url = known_by asks url (map_under true table url) (known_in maps.now maps.kept url)

-- the declarations that stand beside the map of the table, where that has one, or else those that are kept
abbrev pub declared_where : (of_table : Option MapRecord) → (beside kept : Option (List Named)) → Option (List Named)
declared_where (Some map) beside kept = beside
declared_where None beside kept = kept

abbrev pub declared_over : UrlTableSeen → KeptMaps → DeclaredByUrl
declared_over table maps url = declared_where (map_under true table url) (declared_under true table url) (declared_in maps.now maps.kept url)

abbrev pub known_over : (asks : Bool) → UrlTableSeen → KeptMaps → NamedKnown
known_over asks table maps = record { maps = maps_over asks table maps; declared = declared_over table maps }

-- ---- what asking leaves as it is

-- what is kept, and the time; and where that is
pub record StoreStill : Type 0 where
  pub holding : Holding KeptMap
  pub now : ℕ
  pub place : GName

abbrev pub still_of : StoreMaps → StoreStill
still_of maps = record { holding = holding_of maps.kept.now.kept; now = maps.kept.now.now; place = maps.kept.ghost_name }
