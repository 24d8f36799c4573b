use Rattle.std.proofs.Common.{Some, refl}
use Rattle.smap_trace.specs.Laws.Looked.{looked_one}
use Rattle.smap_text_answers.specs.Laws.Locator.{became_at}
use Rattle.smap_text_answers.specs.PlaceSeen.{place_seen}
use Rattle.smap_text_answers.proofs.LocatingLaws.{put_one}
use Rattle.smap_store.specs.Stored.{FindsIn}
use Rattle.smap_text_answers.proofs.locator.LocatorLineEditor.edit.Goals as goal

pub returns-clause-put : goal.returns-clause-put
returns-clause-put g c =
    let finds = rw c.as_bytes-url.ensures.value at c.find.ensures.finds.0 in
    let line = rw (c.outcome_at-found.ensures, c.as_bytes-url.ensures.value) at c.put_place_line.ensures in
    put_one g.W.ByteSink.seen _ _ _ c.put_place_line.result _ _ line
    (rw (← c.in-Some.ensures.place) (became_at g.L.MapLoader.MayLoad g.L.MapLoader.Loads g.met.L.MapLoader.given _ _ _ (Some (place_seen c.in-Some.place)) _ (finds, refl)))
    (record { step = rw (← c.in-Some.ensures.place) (finds, refl); options = refl; same = c.find.ensures.finds.1 })

pub returns-clause-reaches : goal.returns-clause-reaches
returns-clause-reaches g c = (looked_one (FindsIn g.L.MapLoader.Loads) _ _ _ c.find.ensures.finds.0, c.find.ensures.finds.1)
