use Rattle.std.proofs.Common.{◌≡◌, refl, rules, subst}
use Rattle.smap_lines.specs.Editing.{EditsInto, devices_seen}
use Rattle.smap_lines.specs.Laws.RunEnds.{ends_wider}
use Rattle.smap_lines.specs.Limits.{most_text_bytes}
use Rattle.smap_text_answers.specs.Locating.{LocateStep}
use Rattle.smap_text_answers.proofs.BesideLaws.{when_off}
use Rattle.smap_text_answers.proofs.LocatingLaws.{locates_seen}
use Rattle.smap_text_answers.proofs.LentStoreLaws.{store_after}
use Rattle.smap_store.specs.Stored.{FindsIn, StoredSeen}
use Rattle.smap_store.specs.StoredMaps.{same_store_self}
use Rattle.smap_text_answers.specs.StoreRun.{store_of}
use Rattle.smap_trace.specs.Rewriting.{Looked}
use Rattle.smap_text_answers.proofs.locating.locate_text.Goals as goal

pub returns : goal.returns
returns g c =
    let new = c.edit_lines.new.editor in
    let asked = c.args.run.now.asked.now in
    let sources = c.args.run.now.sources.now in
    let cache : c.cache-1.given.0 ≡ new.maps.cache.now = search rules in
    let loader : c.loader-1.given.0 ≡ new.maps.loader.now = search rules in
    let before = devices_seen (g.R.ByteSource.seen c.args.input.now) (g.W.ByteSink.seen c.args.output.now) in
    let after = devices_seen (g.R.ByteSource.seen c.edit_lines.new.input) (g.W.ByteSink.seen c.edit_lines.new.output) in
    let first = store_of sources c.args.cache.now c.args.loader.now in
    let stands = store_after g.L.MapLoader.Loads _ new.maps _ _ cache loader c.edit_lines.ensures.reaches.1 in
    record {
      ends = ends_wider c.edit_lines.result (λ counts is. when_off asked.names _ _ c.requires.unnamed (
        subst (λ (s : StoredSeen g.row.L.Denot). EditsInto (LocateStep (FindsIn g.L.MapLoader.Loads) asked.options) most_text_bytes before after first s counts)
            stands (locates_seen g.L.MapLoader.Loads _ most_text_bytes before after new counts (refl, same_store_self _) is),
        refl,
      ))
          (λ fault is. when_off asked.names _ _ c.requires.unnamed is) c.edit_lines.ensures.ends;
      looked = subst (λ (s : StoredSeen g.row.L.Denot). Looked (FindsIn g.L.MapLoader.Loads) first s) stands c.edit_lines.ensures.reaches.0;
    }
