use Rattle.std.proofs.Common.{Option, List, ℕ, inl, subst}
use Rattle.smap_store.specs.Loaded.{came_seen}
use Rattle.smap_store.specs.Stored.{Comes}
use Rattle.smap_store.proofs.stored.StoredMaps.ask.Goals as goal

pub returns-clause-steps : goal.returns-clause-steps
returns-clause-steps g c =
    let P : Option (List ℕ) → Type 0 = λ path.
    Comes g.L.MapLoader.Loads c.args.self.now.loader.now c.args.url.now path (came_seen c.load_from-loaded.result) c.load_from-loaded.new.loader in
    inl (record { came = came_seen c.load_from-loaded.result; comes = subst P c.in-Ok.ensures c.load_from-loaded.ensures; remembered = c.remember.ensures })
