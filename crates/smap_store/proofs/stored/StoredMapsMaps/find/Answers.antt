use Rattle.std.proofs.Common.{◌≡◌, List, ℕ, ap, ◌∙◌}
use Rattle.smap_locations.specs.Locations.{key_for}
use Rattle.smap_store.specs.Cache.{kept_under}
use Rattle.smap_store.specs.Fileless.{known_of}
use Rattle.smap_store.specs.Laws.Kept.{same_kept}
use Rattle.smap_store.specs.Stored.{map_in, or_other}
use Rattle.smap_store.proofs.stored.StoredMapsMaps.find.Goals as goal

-- what is remembered stays under each URL where it is used
pub returns-then-touch-clause-same : goal.returns-then-touch-clause-same
returns-then-touch-clause-same g c none =
    let cache = c.args.self.now.cache.now in
    let exact = c.args.self.now.exact.now in
    let locations = c.args.self.now.locations.now in
    let same : (other : List ℕ) → kept_under other c.touch.new.self ≡ kept_under other cache =
    λ other. ap (kept_under other) c.touch.ensures.used ∙ same_kept cache c.key_for-key.result.now other in
    λ i url. or_other (known_of exact locations url) (map_in (same (key_for locations url) i))
