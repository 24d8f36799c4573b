use Rattle.std.proofs.Common.{refl, rules}
use Rattle.std.specs.Prelude.{Err, Ok}
use Rattle.smap_text_answers.proofs.ByPathLaws.{run_by_path}
use Rattle.smap_replies.specs.Outcome.{failure_report}
use Rattle.smap_replies.specs.Streams.{sinks_seen, streams_seen}
use Rattle.smap_text_answers.specs.Told.{told_seen}
use Rattle.smap_text_answers.proofs.locating.answer_locate.Goals as goal

pub returns-in-Ok : goal.returns-in-Ok
returns-in-Ok g c =
    let run = c.over_store-end in
    let over = rw (c.as_ref.ensures.value, c.deref-arguments.ensures.value, c.map_bytes.ensures, c.new-told.ensures) at run.ensures.over in (
      Ok c.in-Ok.sources,
      (rw (c.as_ref.ensures.value, c.as_deref-list.ensures.value, c.deref.ensures.value) at c.in-Ok.ensures),
      (
        run.result,
        g.E.ByteSink.seen c.tell_patterns.new.errors,
        told_seen run.new.work.told,
        streams_seen (g.R.ByteSource.seen run.new.input) (g.W.ByteSink.seen run.new.output) (g.E.ByteSink.seen run.new.errors) run.new.first,
        sinks_seen (g.W.ByteSink.seen c.finish-ended.new.output) (g.E.ByteSink.seen c.finish-ended.new.errors) c.finish-ended.new.first,
        c.finish-ended.result,
        c.say_told-listed.result,
        (rw (c.deref-arguments.ensures.value) at c.tell_patterns.ensures),
        over,
        run_by_path (g.F.FileReader.gives c.args.reader.now) (g.F.FileReader.causes c.args.reader.now) c.args.asked.now c.in-Ok.sources run.result _ _ _ over,
        refl,
        c.finish-ended.ensures,
        c.say_told-listed.ensures,
        refl,
        refl,
        search rules,
      ),
    )

pub returns-in-Err : goal.returns-in-Err
returns-in-Err g c = (
  Err (failure_report c.in-Err.failure),
  (rw (c.as_ref.ensures.value, c.as_deref-list.ensures.value, c.deref.ensures.value) at c.in-Err.ensures),
  (refl, c.report.ensures),
)
