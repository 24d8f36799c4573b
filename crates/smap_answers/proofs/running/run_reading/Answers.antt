use Rattle.std.proofs.Common.{◌≡◌, ◌∙◌, [], ap, subst, sym}
use Rattle.smap_command.specs.Runnable.{strips_ansi}
use Rattle.smap_io.specs.Device.{SourceSeen}
use Rattle.smap_replies.specs.Streams.{streams_seen}
use Rattle.smap_io.specs.Sequences.{most_sequences}
use Rattle.smap_io.specs.WithoutSequences.{without_seen}
use Rattle.smap_answers.specs.Run.{RunsTold}
use Rattle.smap_answers.proofs.OverLaws.{in_case, in_other}
use Rattle.smap_answers.proofs.running.run_reading.Goals as goal

pub returns-then-not-strips_ansi : goal.returns-then-not-strips_ansi
returns-then-not-strips_ansi g c =
    in_other (strips_ansi c.args.command.now) _ _ (sym c.strips_ansi.ensures ∙ c.if-not-strips_ansi.true)
    c.run_told-status.ensures

pub returns : goal.returns
returns g c =
    let seen = g.R.ByteSource.seen in
    let run = c.run_told-status-2 in
    let text = run.new.input in
    let made = c.new-text.result in
    let before : without_seen made.held made.most (seen made.inner) ≡ without_seen [] most_sequences (seen c.args.input) =
    λ i. without_seen (c.new-text.ensures.none i) (c.new-text.ensures.all i) (seen (c.new-text.ensures.over i)) in
    let after : without_seen text.held text.most (seen text.inner) ≡ without_seen text.held text.most (seen c.into_inner.result) =
    λ i. without_seen text.held text.most (seen (sym c.into_inner.ensures i)) in
    let runs = λ (old new : SourceSeen). RunsTold (g.F.FileReader.gives c.args.reader.now) (g.F.FileReader.causes c.args.reader.now) c.args.hint c.args.command.now run.result
    (streams_seen old (g.W.ByteSink.seen c.args.output.now) (g.E.ByteSink.seen c.args.errors.now) c.args.first.now)
    (streams_seen new (g.W.ByteSink.seen run.new.output) (g.E.ByteSink.seen run.new.errors) run.new.first) in
    in_case (strips_ansi c.args.command.now) _ _ (sym c.strips_ansi.ensures ∙ c.if-not-strips_ansi.false) (
      text.held,
      text.most,
      subst (λ new. runs (without_seen [] most_sequences (seen c.args.input)) new) after
          (subst (λ old. runs old (without_seen text.held text.most (seen text.inner))) before run.ensures),
      λ failed. text.waits (ap (λ inner. (seen inner).failed) (sym c.into_inner.ensures) ∙ failed),
    )
