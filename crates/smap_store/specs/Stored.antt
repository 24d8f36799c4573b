-- Where the map of a URL is found (this project's own): among those of a table; else, where a file is asked for, among those
-- that are remembered, under the text that stands for the URL; else in its file, which is then read, and what came of that is
-- remembered.
use Rattle.std.specs.Prelude.{◌≡◌, ◌⊎◌, ℕ, List, Option, Some, None, MatchOption, Ok, Err}
use Rattle.std.specs.Result.{result_ok}
use Rattle.smap_locations.specs.Locations.{LocationsSeen, key_for, path_for}
use Rattle.smap_record.specs.Record.{MapRecord}
use Rattle.smap_store.specs.Cache.{CacheSeen, IsKept, Remembers, kept_under, short, used_in}
use Rattle.smap_store.specs.Fileless.{known_of}
use Rattle.smap_store.specs.Loaded.{Came, Outcome}
use Rattle.smap_trace.specs.declared.maps.NoMap.TheVariants.{Unnamed, Memory}

-- the map that is remembered, where one is
abbrev pub map_in : Option Outcome → Option MapRecord
map_in None = None
map_in (Some found) = result_ok found

-- the map that a URL is known to have, or that it has none; and else another
abbrev pub or_other : (known : Option (Option MapRecord)) → (other : Option MapRecord) → Option MapRecord
or_other None other = other
or_other (Some known) other = known

-- what is found by what is remembered: where nothing is, memory ran out
abbrev pub outcome_of : Option Outcome → Outcome
outcome_of None = Err Memory
outcome_of (Some found) = found

-- what is found for a URL that is known to have a map, or none; and else by what is remembered
abbrev pub known_outcome : (known : Option (Option MapRecord)) → Option Outcome → Outcome
known_outcome None kept = outcome_of kept
known_outcome (Some None) kept = Err Unnamed
known_outcome (Some (Some stated)) kept = Ok stated

-- maps that are found there: in a table, and else in files, by what is remembered of these and by what reads them
pub record StoredSeen (L : Type 0) : Type 0 where
  pub exact : List (List ℕ × MapRecord)
  pub locations : LocationsSeen
  pub cache : CacheSeen
  pub loader : L

-- what a loader may give for a URL and a path
abbrev pub LoadsMay : (L : Type 0) → Type 1
LoadsMay L = L → (url path : List ℕ) → Option MapRecord → Type 0

-- what it gave, and how it stands then
abbrev pub LoadsStep : (L : Type 0) → Type 1
LoadsStep L = L → (url path : List ℕ) → Came → L → Type 0

module _ {L : Type 0} where
  -- what came for a URL of this path, and how the loader stands then: nothing and as before, where the URL has no path
  abbrev pub Comes : LoadsStep L → (loader : L) (url : List ℕ) (path : Option (List ℕ)) → Came → (after : L) → Type 0
  Comes Loads loader url None came after = (came ≡ Err Unnamed) × (after ≡ loader)
  Comes Loads loader url (Some path) came after = Loads loader url path came after

  -- what came for a URL that was not remembered is
  pub record Asked (Loads : LoadsStep L) (old : StoredSeen L) (url : List ℕ) (new : StoredSeen L) : Type 0 where
    pub came : Came
    pub comes : Comes Loads old.loader url (path_for old.locations url) came new.loader
    pub remembered : Remembers old.cache url came new.cache

  -- there was not enough memory to ask for it
  pub record Unasked (old new : StoredSeen L) : Type 0 where
    pub cache : new.cache ≡ short old.cache
    pub loader : new.loader ≡ old.loader

  -- nothing was asked for, and nothing is changed
  pub record Untouched (old new : StoredSeen L) : Type 0 where
    pub cache : new.cache ≡ old.cache
    pub loader : new.loader ≡ old.loader

  abbrev pub Asks : LoadsStep L → (old : StoredSeen L) (url : List ℕ) (new : StoredSeen L) → Type 0
  Asks Loads old url new = Asked Loads old url new ⊎ Unasked old new

  -- what is remembered under a text was used
  pub record Recalled (old : StoredSeen L) (url : List ℕ) (new : StoredSeen L) : Type 0 where
    pub cache : new.cache ≡ used_in url old.cache
    pub loader : new.loader ≡ old.loader

  -- what is remembered under this text is used, or it is asked for
  abbrev pub Recalls : LoadsStep L → (old : StoredSeen L) (url : List ℕ) (new : StoredSeen L) → Type 0
  Recalls Loads old url new = MatchOption (kept_under url old.cache) (Asks Loads old url new) (λ found. Recalled old url new)

  -- what is found under a URL: what it is known to have, and else what is remembered
  abbrev pub found_in : StoredSeen L → (url : List ℕ) → Option MapRecord
  found_in maps url =
      or_other (known_of maps.exact maps.locations url) (map_in (kept_under (key_for maps.locations url) maps.cache))

  -- the same, or why there is none
  abbrev pub outcome_at : StoredSeen L → (url : List ℕ) → Outcome
  outcome_at maps url =
      known_outcome (known_of maps.exact maps.locations url) (kept_under (key_for maps.locations url) maps.cache)

  -- how the maps stand after the map of a URL was looked for
  pub record FindsIn (Loads : LoadsStep L) (old : StoredSeen L) (url : List ℕ) (new : StoredSeen L) : Type 0 where
    pub exact : new.exact ≡ old.exact
    pub locations : new.locations ≡ old.locations
    pub steps : MatchOption (known_of old.exact old.locations url) (Recalls Loads old (key_for old.locations url) new) (λ known. Untouched old new)

  -- what may come for a URL of this path: none, where it has no path, or else where there is not enough memory
  abbrev pub MayCome : LoadsMay L → (loader : L) (url : List ℕ) (path : Option (List ℕ)) → (found : Option MapRecord) → Type 0
  MayCome MayLoad loader url None found = found ≡ None
  MayCome MayLoad loader url (Some path) found = (found ≡ None) ⊎ MayLoad loader url path found

  -- what may be found for a URL from now on: what it is known to have; else what is remembered, or what may come
  abbrev pub GivesIn : LoadsMay L → StoredSeen L → (url : List ℕ) → (found : Option MapRecord) → Type 0
  GivesIn MayLoad maps url found =
      let key = key_for maps.locations url in
      MatchOption (known_of maps.exact maps.locations url)
      (((it : Outcome) × IsKept maps.cache key it × (found ≡ result_ok it)) ⊎ MayCome MayLoad maps.loader key (path_for maps.locations url) found)
      (λ known. found ≡ known)
