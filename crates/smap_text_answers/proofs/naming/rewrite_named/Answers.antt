use Rattle.std.proofs.Common.{◌≡◌, ◌+◌, [], ap, length, map, refl, subst, sym, ◌∙◌}
use Rattle.std.proofs.lemmas.List.{length-map}
use Rattle.std.specs.Prelude.{true}
use Rattle.smap_lines.specs.Laws.RunEnds.{ends_memory, ends_wider}
use Rattle.smap_lines.specs.Editing.{devices_seen}
use Rattle.smap_replies.specs.Arguments.{argument_of}
use Rattle.smap_store.specs.Names.{names_at_first}
use Rattle.smap_store.specs.Stored.{FindsIn, GivesIn}
use Rattle.smap_trace.specs.NotesSeen.{notes_seen}
use Rattle.smap_text_answers.specs.Names.{programs_seen}
use Rattle.smap_text_answers.specs.Told.{ToldSeen}
use Rattle.smap_text_answers.specs.Naming.{RewritesNames}
use Rattle.smap_text_answers.specs.Private.Naming.{named_over}
use Rattle.smap_text_answers.specs.Request.{request_seen}
use Rattle.smap_text_answers.specs.RewriteFrom.{asked_of, places_asked, programs_of}
use Rattle.smap_text_answers.specs.StoreRun.{store_of}
use Rattle.smap_text_answers.proofs.BesideLaws.{text_front_of_none, when_on}
use Rattle.smap_text_answers.proofs.NamingLaws.{NamerNames, front_named, stored_looked, text_named}
use Rattle.smap_text_answers.proofs.naming.rewrite_named.Goals as goal

pub returns-in_default : goal.returns-in_default
returns-in_default g c = record {
  ends = ends_memory c.requires.input_works c.requires.output_works (text_front_of_none (g.F.FileReader.gives c.args.run.now.request.now.maps.now.files.now) (request_seen c.args.run.now.request.now) c.args.run.now.sources.now
      (GivesIn g.L.MapLoader.MayLoad (store_of c.args.run.now.sources.now c.args.cache.now c.args.loader.now)) _);
  looked = ([], refl);
}

pub returns : goal.returns
returns g c =
    let given = c.args.run.now.request.now in
    let request = request_seen given in
    let sources = c.args.run.now.sources.now in
    let gives = g.F.FileReader.gives in
    let reader = given.maps.now.files.now in
    let programs = programs_of request sources in
    let made = c.rewrite_beside_names-result in
    let first = c.new-namer.result in
    let reader_is : first.files.now ≡ reader = ap (λ f. f.now) c.new-namer.ensures.files in
    let number : first.number ≡ length request.arguments + 2 =
    c.new-namer.ensures.number ∙ ap (λ n. n + 2) (sym (length-map given.arguments.now argument_of)) in
    let programs_are : programs_seen first ≡ programs = λ i. record {
      number = number i;
      arguments = map argument_of (c.new-namer.ensures.arguments i).now;
      locations = (c.new-namer.ensures.locations i).now;
    } in
    let names_are : c.in-Ok.names ≡ names_at_first request.names_bytes = rw c.names_bytes.ensures at c.in-Ok.ensures in
    let places = places_asked true request sources in
    let frames = asked_of request sources in
    let before = devices_seen (g.R.ByteSource.seen c.args.input.now) (g.W.ByteSink.seen c.args.output.now) in
    let after = devices_seen (g.R.ByteSource.seen made.new.input) (g.W.ByteSink.seen made.new.output) in
    let old = store_of sources c.args.cache.now c.args.loader.now in
    let new = named_over sources made.new.cache made.new.loader made.new.names made.new.namer in
    let notes = notes_seen made.new.notes.named in
    let others = notes_seen made.new.notes.others in
    record {
      ends = ends_wider made.result (λ counts is. when_on request.names _ _ c.requires.named (subst (λ (t : ToldSeen).
          RewritesNames (gives reader) programs request.names_bytes request.anywhere places frames (FindsIn g.L.MapLoader.Loads) before after old new.stored counts
          notes others t)
          (sym c.told_at_end.ensures)
          (text_named gives first reader programs reader_is programs_are c.new-namer.ensures.told g.L.MapLoader.Loads request.names_bytes old c.in-Ok.names
          names_are request.anywhere places frames before after new counts notes others is)))
          (λ fault is. when_on request.names _ _ c.requires.named
          (front_named gives first reader programs reader_is programs_are c.new-namer.ensures.told g.L.MapLoader.Loads request.names_bytes old c.in-Ok.names
          names_are request.anywhere places frames before after g.L.MapLoader.MayLoad fault is))
          made.ensures.ends;
      looked = stored_looked g.L.MapLoader.Loads (NamerNames gives) _ _ made.ensures.looked;
    }
