use Rattle.std.proofs.Common.{Some, refl}
use Rattle.smap_store.specs.Named.{FindsNamed}
use Rattle.smap_store.specs.Stored.{FindsIn}
use Rattle.smap_trace.specs.Laws.Looked.{looked_one}
use Rattle.smap_text_answers.specs.Laws.NamedLocator.{became_with}
use Rattle.smap_text_answers.specs.NamedPlace.{named_place_seen}
use Rattle.smap_text_answers.proofs.LocatingLaws.{put_one}
use Rattle.smap_text_answers.proofs.named_locator.NamedLocatorLineEditor.edit.Goals as goal

pub returns-clause-put : goal.returns-clause-put
returns-clause-put g c =
    let finds = rw c.as_bytes-url.ensures.value at c.find.ensures.finds.0 in
    put_one g.W.ByteSink.seen _ _ _ c.put_named_line.result _ _ c.put_named_line.ensures
    (rw (← c.in-Some.ensures) (became_with g.L.MapLoader.MayLoad g.N.NamesLoader.MayName g.L.MapLoader.Loads g.met.L.MapLoader.given
    g.N.NamesLoader.Names g.met.N.NamesLoader.given_names _ _ _ (Some (named_place_seen c.in-Some.named)) _ (finds, refl)))
    (record { step = rw (← c.in-Some.ensures) (finds, refl); options = refl; same = c.find.ensures.finds.1 })

pub returns-clause-reaches : goal.returns-clause-reaches
returns-clause-reaches g c = (
  looked_one (FindsNamed (FindsIn g.L.MapLoader.Loads) g.N.NamesLoader.Names) _ _ _ c.find.ensures.finds.0,
  c.find.ensures.finds.1,
)
