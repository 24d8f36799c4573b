-- What is remembered of the URLs that were asked for (this project's own): the map of each, or why it has none, while the
-- bytes that these count for are within a bound each, or where there is no other; what was longest not asked for is dropped.
use Rattle.std.specs.Prelude.{◌≡◌, ◌⊎◌, ℕ, ◌+◌, ◌-◌, ◌/◌, ◌^◌, Bool, true, false, min, List, [], ◌∷◌, Option, Some, None, MatchOption, Ok, Err, is_some}
use Rattle.smap_locations.specs.ByText.{value_under}
use Rattle.smap_kept.specs.Bounded.{kept_within, known_under}
use Rattle.smap_kept.specs.InOrder.{used, without}
use Rattle.smap_kept.specs.declared.bounded.Counted.{Counted}
use Rattle.smap_record.specs.MapFile.{Map}
use Rattle.smap_store.specs.Loaded.{Came, Outcome}
use Rattle.smap_store.specs.declared.cache.HeldMaps.{HeldMaps}
use Rattle.smap_store.specs.declared.cache.MapCache.TheInside.{Inside}
use Rattle.smap_trace.specs.declared.maps.NoMap.{NoMap}

-- the maps, and why other URLs have none, each under its URL; what was used last stands first. How many bytes the maps may count
-- for, how many were read, how often a URL had none, and how often there was not enough memory
pub record CacheSeen : Type 0 where
  pub maps : List (List ℕ × Counted Map)
  pub nones : List (List ℕ × Counted NoMap)
  pub most : ℕ
  pub read : ℕ
  pub missing : ℕ
  pub shortages : ℕ

abbrev pub cache_at_first : (most : ℕ) → CacheSeen
cache_at_first most = record { maps = []; nones = []; most = most; read = 0; missing = 0; shortages = 0 }

-- nothing is remembered
abbrev pub IsEmpty : CacheSeen → Type 0
IsEmpty cache = (cache.maps ≡ []) × (cache.nones ≡ [])

-- what is remembered of a URL: what its map states, or why it has none
abbrev pub found_of : Option Map → (why : Option NoMap) → Option Outcome
found_of (Some map) why = Some (Ok map.stated)
found_of None (Some why) = Some (Err why)
found_of None None = None

abbrev pub kept_under : (url : List ℕ) → CacheSeen → Option Outcome
kept_under url cache = found_of (known_under url cache.maps) (known_under url cache.nones)

-- this is what is remembered of it, among the maps or the others
abbrev pub IsKept : CacheSeen → (url : List ℕ) → Outcome → Type 0
IsKept cache url found =
    ((map : Map) × (known_under url cache.maps ≡ Some map) × (found ≡ Ok map.stated))
    ⊎ ((why : NoMap) × (known_under url cache.nones ≡ Some why) × (found ≡ Err why))

-- ---- what is remembered of a URL is used

abbrev pub used_among : (is_map : Bool) → (url : List ℕ) → CacheSeen → CacheSeen
used_among true url cache = record cache { maps = used url cache.maps }
used_among false url cache = record cache { nones = used url cache.nones }

abbrev pub used_in : (url : List ℕ) → CacheSeen → CacheSeen
used_in url cache = used_among (is_some (value_under url cache.maps)) url cache

-- ---- what came for a URL

-- one more, as far as 64 bits can count
abbrev pub one_more : ℕ → ℕ
one_more count = min (count + 1) (2 ^ 64 - 1)

-- it is counted
abbrev pub counted : CacheSeen → Came → CacheSeen
counted cache (Err why) = record cache { missing = one_more cache.missing }
counted cache (Ok one) = record cache { read = one_more cache.read }

-- there was not enough memory, and nothing else is changed
abbrev pub short : CacheSeen → CacheSeen
short cache = record cache { shortages = one_more cache.shortages }

-- a map is put before the others, and those that there is no room for then are dropped
abbrev pub with_map : (url : List ℕ) → Counted Map → CacheSeen → CacheSeen
with_map url one cache = record cache { maps = kept_within cache.most ((url, one) ∷ without url cache.maps) }

-- the same of why there is none, which has a sixteenth of the bound for itself
abbrev pub with_none : (url : List ℕ) → NoMap → CacheSeen → CacheSeen
with_none url why cache =
    record cache { nones = kept_within (cache.most / 16) ((url, record { value = why; bytes = 0 }) ∷ without url cache.nones) }

-- what came is put
abbrev pub Keeps : (old : CacheSeen) (url : List ℕ) → Came → (new : CacheSeen) → Type 0
Keeps old url (Err why) new = new ≡ with_none url why old
Keeps old url (Ok one) new = (map : Map) × (map.stated ≡ one.0) × (new ≡ with_map url (record { value = map; bytes = one.1 }) old)

-- what came is counted, and remembered where there is memory for it
abbrev pub Remembers : (old : CacheSeen) (url : List ℕ) → Came → (new : CacheSeen) → Type 0
Remembers old url came new = Keeps (counted old came) url came new ⊎ (new ≡ short (counted old came))

-- ---- what its fields stand for

abbrev pub maps_in : Option HeldMaps → List (List ℕ × Counted Map)
maps_in None = []
maps_in (Some held) = held.maps.entries

abbrev pub nones_in : Option HeldMaps → List (List ℕ × Counted NoMap)
nones_in None = []
nones_in (Some held) = held.nones.entries

abbrev pub cache_seen : Inside → CacheSeen
cache_seen inside = record {
  maps = maps_in inside.held;
  nones = nones_in inside.held;
  most = inside.most;
  read = inside.read;
  missing = inside.missing;
  shortages = inside.shortages;
}

-- each of these has its bound
abbrev pub IsHeld : Inside → Type 0
IsHeld inside = MatchOption inside.held (Unit {0}) (λ held. (held.maps.most ≡ inside.most) × (held.nones.most ≡ inside.most / 16))

abbrev pub held_in : CacheSeen → HeldMaps
held_in cache = record { maps = record { entries = cache.maps; most = cache.most }; nones = record { entries = cache.nones; most = cache.most / 16 } }

-- what came is put
abbrev pub KeepsIn : (old : HeldMaps) (url : List ℕ) → Came → (new : HeldMaps) → Type 0
KeepsIn old url (Err why) new =
    new ≡ record old { nones = record old.nones { entries = kept_within old.nones.most ((url, record { value = why; bytes = 0 }) ∷ without url old.nones.entries) } }
KeepsIn old url (Ok one) new =
    (map : Map) × (map.stated ≡ one.0)
    × (new ≡ record old { maps = record old.maps { entries = kept_within old.maps.most ((url, record { value = map; bytes = one.1 }) ∷ without url old.maps.entries) } })
