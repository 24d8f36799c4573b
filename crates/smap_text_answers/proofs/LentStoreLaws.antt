-- A store of maps that is lent: it stays over the same maps.
use Rattle.std.specs.Prelude.{◌≡◌, ℕ, List}
use Rattle.std.proofs.Common.{ap, refl, subst, sym}
use Rattle.smap_store.specs.Cache.{CacheSeen}
use Rattle.smap_store.specs.Stored.{FindsIn, LoadsStep, StoredSeen, found_in}
use Rattle.smap_store.specs.StoredMaps.{IsSameStore, same_store_on, same_store_self, stored_seen}
use Rattle.smap_store.specs.declared.stored.StoredMaps.{StoredMaps}
use Rattle.smap_trace.specs.Rewriting.{Looked}
use Rattle.smap_trace.specs.Laws.Seen.{looked_seen}

module _ {L : Type 0} (Steps : LoadsStep L) (first new : StoredMaps L) (cache : CacheSeen) (loader : L) (cache_is : cache ≡ new.cache.now)
    (loader_is : loader ≡ new.loader.now) where
  -- it stays over the same maps
  abbrev After : StoredSeen L
  After = record { exact = first.exact.now; locations = first.locations.now; cache = cache; loader = loader }

  pub store_after : IsSameStore first new → stored_seen new ≡ After
  store_after same = λ i. record {
    exact = ap (λ w. w.now) same.exact i;
    locations = ap (λ l. l.now) same.locations i;
    cache = sym cache_is i;
    loader = sym loader_is i;
  }

  -- and maps were looked for in it
  pub looked_after : Looked (λ (maps : StoredMaps L) (url : List ℕ) (after : StoredMaps L). FindsIn Steps (stored_seen maps) url (stored_seen after)
      × IsSameStore maps after) first new → (stored_seen new ≡ After) × Looked (FindsIn Steps) (stored_seen first) After
  looked_after looked =
      let seen = looked_seen _ (λ maps. found_in (stored_seen maps)) (FindsIn Steps) found_in stored_seen (IsSameStore first)
      (λ old new url is finds. (finds.0, same_store_on first old new is finds.1)) (λ maps url. refl) first new (same_store_self first) looked in
      (store_after seen.1, subst (λ maps. Looked (FindsIn Steps) (stored_seen first) maps) (store_after seen.1) seen.0)
