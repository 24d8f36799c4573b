use Rattle.std.proofs.Common.{◌≡◌, length, map, option_copied, refl, rules, sym}
use Rattle.std.proofs.lemmas.List.{length-map}
use Rattle.smap_replies.specs.Arguments.{argument_of}
use Rattle.smap_text_answers.specs.Told.{told_seen}
use Rattle.smap_text_answers.specs.Request.{request_seen}
use Rattle.smap_text_answers.specs.RewriteFrom.{IsTextOverStore}
use Rattle.smap_replies.specs.Streams.{sinks_seen, streams_seen}
use Rattle.smap_trace.specs.NotesSeen.{notes_seen}
use Rattle.smap_text_answers.proofs.SameLaws.{same_run}
use Rattle.smap_text_answers.proofs.rewriting.rewrite_compared.Goals as goal

pub returns : goal.returns
returns g c =
    let request = c.args.request.now in
    let maps = request.maps.now in
    let gives = g.F.FileReader.gives maps.files.now in
    let causes = g.F.FileReader.causes maps.files.now in
    let run = c.over_store-end in
    let notes = run.new.work.notes in
    let number : length request.arguments.now ≡ length (map argument_of request.arguments.now) = sym (length-map request.arguments.now argument_of) in
    let over : IsTextOverStore gives causes (option_copied maps.base) maps.interval (request_seen request) c.args.sources.now run.result (told_seen c.args.told)
    (notes_seen notes.named) (notes_seen notes.others) (told_seen run.new.work.told) _ _ =
    rw (number, c.fit_number.ensures, c.cache_bytes.ensures) at run.ensures.over in (
      run.result,
      notes_seen notes.named,
      notes_seen notes.others,
      g.E.ByteSink.seen c.tell_patterns.new.errors,
      told_seen run.new.work.told,
      streams_seen (g.R.ByteSource.seen run.new.input) (g.W.ByteSink.seen run.new.output) (g.E.ByteSink.seen run.new.errors) run.new.first,
      sinks_seen (g.W.ByteSink.seen c.finish-ended.new.output) (g.E.ByteSink.seen c.finish-ended.new.errors) c.finish-ended.new.first,
      g.E.ByteSink.seen c.say_told-listed.new.errors,
      g.E.ByteSink.seen c.say_told-fitted.new.errors,
      g.E.ByteSink.seen c.sum_up-summed.new.errors,
      g.E.ByteSink.seen c.say_urls-said.new.errors,
      sinks_seen (g.W.ByteSink.seen c.require-needed.new.output) (g.E.ByteSink.seen c.require-needed.new.errors) c.require-needed.new.first,
      c.finish-ended.result,
      c.say_told-listed.result,
      c.say_told-fitted.result,
      c.sum_up-summed.result,
      c.say_urls-said.result,
      c.require-needed.result,
      c.max-status.result,
      c.hint-hinted.result,
      c.tell_patterns.ensures,
      over,
      same_run gives causes (option_copied maps.base) maps.interval (request_seen request) c.args.sources.now run.result _ _ _ _ _ _ over,
      refl,
      c.finish-ended.ensures,
      c.say_told-listed.ensures,
      c.say_told-fitted.ensures,
      c.sum_up-summed.ensures,
      c.say_urls-said.ensures,
      c.require-needed.ensures,
      refl,
      refl,
      c.hint-hinted.ensures,
      search rules,
      search rules,
    )
