use Rattle.std.proofs.Common.{refl}
use Rattle.smap_replies.specs.Streams.{streams_seen}
use Rattle.smap_answers.proofs.running.run_told.Goals as goal

pub returns : goal.returns
returns g c =
    let run = c.run_over-status in (
      streams_seen (g.R.ByteSource.seen run.new.input) (g.W.ByteSink.seen run.new.output) (g.E.ByteSink.seen run.new.errors) run.new.first,
      run.ensures,
      refl,
      refl,
      refl,
      c.tell.ensures,
    )
