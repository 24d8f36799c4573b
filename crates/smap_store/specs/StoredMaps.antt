-- What contracts see of the maps that are found in a table and in files.
use Rattle.std.specs.Prelude.{◌≡◌, refl}
use Rattle.std.proofs.Common.{◌∙◌}
use Rattle.smap_store.specs.Stored.{StoredSeen}
use Rattle.smap_store.specs.declared.stored.StoredMaps.{StoredMaps}

abbrev pub stored_seen : {L : Type 0} → StoredMaps L → StoredSeen L
stored_seen maps = record { exact = maps.exact.now; locations = maps.locations.now; cache = maps.cache.now; loader = maps.loader.now }

-- they are those of the same table, locations, cache and loader
pub record IsSameStore {L : Type 0} (old new : StoredMaps L) : Type 0 where
  pub alloc : new.alloc ≡ old.alloc
  pub exact : new.exact ≡ old.exact
  pub locations : new.locations ≡ old.locations
  pub cache : new.cache.ghost_name ≡ old.cache.ghost_name
  pub loader : new.loader.ghost_name ≡ old.loader.ghost_name

-- ---- it stays so

pub same_store_self : {L : Type 0} (maps : StoredMaps L) → IsSameStore maps maps
same_store_self maps = record { alloc = refl; exact = refl; locations = refl; cache = refl; loader = refl }

pub same_store_on : {L : Type 0} (first old new : StoredMaps L) → IsSameStore first old → IsSameStore old new → IsSameStore first new
same_store_on first old new one two = record {
  alloc = two.alloc ∙ one.alloc;
  exact = two.exact ∙ one.exact;
  locations = two.locations ∙ one.locations;
  cache = two.cache ∙ one.cache;
  loader = two.loader ∙ one.loader;
}
