-- Maps of a store with the written names of functions (this project's own): the declarations of a program are asked for when a URL of
-- it is first named, and anew when its map is; and they name its functions by that map.
use Rattle.std.specs.Prelude.{◌≡◌, ◌⊎◌, ◌&&◌, ◌||◌, ℕ, Bool, List, Option, Some, None, MatchBool, is_some}
use Rattle.smap_declarations.specs.Declarations.{Named}
use Rattle.smap_locations.specs.Locations.{key_for}
use Rattle.smap_record.specs.Record.{MapRecord}
use Rattle.smap_store.specs.Cache.{kept_under}
use Rattle.smap_store.specs.Fileless.{known_of}
use Rattle.smap_store.specs.Names.{NamesCame, RemembersNames, has_names, kept_names, known_names, names_used}
use Rattle.smap_store.specs.Program.{ProgramSeen, program_in}
use Rattle.smap_store.specs.Stored.{StoredSeen, found_in}
use Rattle.smap_store.specs.StoredMaps.{IsSameStore, stored_seen}
use Rattle.smap_store.specs.declared.named_maps.NamedMaps.{NamedMaps}
use Rattle.smap_store.specs.declared.names_cache.NamesCache.{NamesCache}
use Rattle.smap_trace.specs.FunctionNames.{FunctionNames, names_beside}

-- the maps, what is remembered of their programs, and what lists these
pub record NamedSeen (L N : Type 0) : Type 0 where
  pub stored : StoredSeen L
  pub names : NamesCache
  pub namer : N

abbrev pub named_seen : {L N : Type 0} → NamedMaps L N → NamedSeen L N
named_seen maps = record { stored = stored_seen maps.maps; names = maps.names.now; namer = maps.namer.now }

-- they are those of the same store, of the same memory of names, and of the same namer
pub record IsSameNamed {L N : Type 0} (old new : NamedMaps L N) : Type 0 where
  pub maps : IsSameStore old.maps new.maps
  pub names : new.names.ghost_name ≡ old.names.ghost_name
  pub namer : new.namer.ghost_name ≡ old.namer.ghost_name

-- what lists declarations may give for a program whose map states this
abbrev pub NamesMay : (N : Type 0) → Type 1
NamesMay N = N → ProgramSeen → MapRecord → Option (List Named) → Type 0

-- what it gave, and how it stands then
abbrev pub NamesStep : (N : Type 0) → Type 1
NamesStep N = N → ProgramSeen → MapRecord → NamesCame → N → Type 0

-- the map of a URL is at hand: nothing is read when it is looked for
abbrev pub holds_map : {L : Type 0} → StoredSeen L → (url : List ℕ) → Bool
holds_map maps url = is_some (known_of maps.exact maps.locations url) || is_some (kept_under (key_for maps.locations url) maps.cache)

module _ {L N : Type 0} where
  -- what names the functions of the program of a URL: its map, and its declarations
  abbrev pub names_in : NamedSeen L N → (url : List ℕ) → Option FunctionNames
  names_in maps url = names_beside (found_in maps.stored url) (kept_names (program_in maps.stored url) maps.names)

module _ {N : Type 0} where
  -- a program is asked for that has this map, and what came is remembered; where it has none, nothing is changed
  abbrev pub NamesOf : NamesStep N → Option MapRecord → (names : NamesCache) (namer : N) → ProgramSeen → (after : NamesCache) (namer_after : N) → Type 0
  NamesOf Names None names namer program after namer_after = (after ≡ names) × (namer_after ≡ namer)
  NamesOf Names (Some stated) names namer program after namer_after =
      (came : NamesCame) × Names namer program stated came namer_after × RemembersNames names program came after

  -- a program is used whose map was at hand, and of which something is remembered; and else it is asked for
  abbrev pub UsesNames : NamesStep N → (is_kept : Bool) → Option MapRecord → (names : NamesCache) (namer : N) → ProgramSeen → (after : NamesCache) (namer_after : N)
      → Type 0
  UsesNames Names is_kept found names namer program after namer_after =
      MatchBool is_kept ((after ≡ names_used program names) × (namer_after ≡ namer)) (NamesOf Names found (names_used program names) namer program after namer_after)

  -- declarations that a program may have from now on: none, those that are remembered, or what may come
  abbrev pub MayKeep : NamesMay N → (names : NamesCache) (namer : N) → ProgramSeen → Option (List Named) → Type 0
  MayKeep MayName names namer program kept =
      (kept ≡ None) ⊎ ((known_names program names ≡ Some kept) ⊎ ((stated : MapRecord) × MayName namer program stated kept))

  -- which map and which names a URL of this program may have from now on
  abbrev pub GivesNamed : (Gives : (url : List ℕ) → Option MapRecord → Type 0) → (program : (url : List ℕ) → ProgramSeen) → NamesMay N → (names : NamesCache)
      (namer : N) (url : List ℕ) → Option MapRecord → Option FunctionNames → Type 0
  GivesNamed Gives program MayName names namer url stated written =
      Gives url stated × ((kept : Option (List Named)) × MayKeep MayName names namer (program url) kept × (written ≡ names_beside stated kept))

-- how they stand after the map of a URL was looked for
pub record FindsNamed {L N : Type 0} (Finds : StoredSeen L → (url : List ℕ) → StoredSeen L → Type 0) (Names : NamesStep N) (old : NamedSeen L N)
    (url : List ℕ) (new : NamedSeen L N) : Type 0 where
  pub stored : Finds old.stored url new.stored
  pub names : UsesNames Names (holds_map old.stored url && has_names (program_in old.stored url) old.names) (found_in new.stored url) old.names old.namer
      (program_in old.stored url) new.names new.namer
