use Rattle.std.proofs.Common.{◌≡◌, [], refl, rules, subst}
use Rattle.smap_lines.specs.Laws.RunEnds.{ends_memory, ends_wider}
use Rattle.smap_lines.specs.Editing.{devices_seen}
use Rattle.smap_store.specs.Stored.{FindsIn, GivesIn, StoredSeen, found_in}
use Rattle.smap_store.specs.StoredMaps.{IsSameStore, same_store_on, same_store_self, stored_seen}
use Rattle.smap_trace.specs.Rewriting.{Looked, RewritesOver}
use Rattle.smap_trace.specs.Laws.Seen.{looked_seen, rewrites_seen}
use Rattle.smap_trace.specs.NotesSeen.{notes_seen}
use Rattle.smap_text_answers.specs.Request.{request_seen}
use Rattle.smap_text_answers.specs.RewriteFrom.{asked_of}
use Rattle.smap_text_answers.specs.StoreRun.{store_of}
use Rattle.smap_text_answers.proofs.BesideLaws.{text_front_of_none, when_off}
use Rattle.smap_text_answers.proofs.LentStoreLaws.{store_after}
use Rattle.smap_text_answers.proofs.frames.rewrite_frames.Goals as goal

pub returns-in_default : goal.returns-in_default
returns-in_default g c = record {
  ends = ends_memory c.requires.input_works c.requires.output_works (text_front_of_none (g.F.FileReader.gives c.args.run.now.request.now.maps.now.files.now) (request_seen c.args.run.now.request.now) c.args.run.now.sources.now
      (GivesIn g.L.MapLoader.MayLoad (store_of c.args.run.now.sources.now c.args.cache.now c.args.loader.now)) _);
  looked = ([], refl);
}

pub returns-in_default-new : goal.returns-in_default-new
returns-in_default-new g c = record {
  ends = ends_memory c.requires.input_works c.requires.output_works (text_front_of_none (g.F.FileReader.gives c.args.run.now.request.now.maps.now.files.now) (request_seen c.args.run.now.request.now) c.args.run.now.sources.now
      (GivesIn g.L.MapLoader.MayLoad (store_of c.args.run.now.sources.now c.args.cache.now c.args.loader.now)) _);
  looked = ([], refl);
}

pub returns : goal.returns
returns g c =
    let request = request_seen c.args.run.now.request.now in
    let sources = c.args.run.now.sources.now in
    let new = c.frames_over.new.maps in
    let notes = notes_seen c.frames_over.new.notes in
    let looked = looked_seen _ (λ m. found_in (stored_seen m)) (FindsIn g.L.MapLoader.Loads) found_in stored_seen (IsSameStore _)
    (λ old new url is finds. (finds.0, same_store_on _ old new is finds.1)) (λ m url. refl) _ new (same_store_self _) c.frames_over.ensures.looked in
    let cache : c.cache-1.given.0 ≡ new.cache.now = search rules in
    let loader : c.loader-1.given.0 ≡ new.loader.now = search rules in
    let stands = store_after g.L.MapLoader.Loads _ new _ _ cache loader looked.1 in
    let before = devices_seen (g.R.ByteSource.seen c.args.input.now) (g.W.ByteSink.seen c.args.output.now) in
    let after = devices_seen (g.R.ByteSource.seen c.frames_over.new.input) (g.W.ByteSink.seen c.frames_over.new.output) in
    record {
      ends = ends_wider c.frames_over.result (λ counts is. when_off request.names _ _ c.requires.unnamed (
        when_off request.anywhere _ _ c.requires.frames (
          subst (λ (s : StoredSeen g.row.L.Denot). RewritesOver (FindsIn g.L.MapLoader.Loads) found_in (asked_of request sources) before after
              (store_of sources c.args.cache.now c.args.loader.now) s counts notes) stands
              (rewrites_seen _ (λ m. found_in (stored_seen m)) (FindsIn g.L.MapLoader.Loads) found_in stored_seen (IsSameStore _)
              (λ old new url is finds. (finds.0, same_store_on _ old new is finds.1)) (λ m url. refl) (asked_of request sources)
              before after _ new counts notes (same_store_self _) is),
          c.requires.unnoted.1,
        ),
        refl,
      ))
          (λ fault is. when_off request.names _ _ c.requires.unnamed (when_off request.anywhere _ _ c.requires.frames is))
          (rw (c.in-Ok-new.ensures, c.in-Ok.ensures) at c.frames_over.ensures.ends);
      looked = subst (λ (s : StoredSeen g.row.L.Denot). Looked (FindsIn g.L.MapLoader.Loads) (store_of sources c.args.cache.now c.args.loader.now) s)
          stands looked.0;
    }
