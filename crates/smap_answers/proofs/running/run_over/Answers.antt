use Rattle.std.proofs.Common.{refl}
use Rattle.smap_replies.proofs.RunLaws.{runs_one}
use Rattle.smap_answers.proofs.running.run_over.Goals.{in-Raw, in-Show, in-Lookup, in-Generated, in-Positions, in-Mappings, in-Sources, in-SourceContent, in-Compose, in-ComposeAll, in-Explain}
use Rattle.smap_answers.proofs.running.run_over.Goals as goal

pub returns : goal.returns
returns g c =
    let base = c.place_of-interval.ensures.base in
    let interval = c.place_of-interval.ensures.interval in
    elim c.match-command.branch [
      | in-Raw w ↦ rw (w.in-Raw.is, w.input-is) (runs_one _ _ _ _ _ _ (w.answer_raw-outcome.ensures _) (rw (w.output-is, w.errors-is, w.outcome-is) at c.report.ensures))
      | in-Show w ↦ rw (w.in-Show.is, w.input-is)
          (runs_one _ _ _ _ _ _ (refl, (rw (w.deref-in-Show.ensures, base, w.in-Show.is) at w.answer_show-outcome.ensures))
          (rw (w.output-is, w.errors-is, w.outcome-is) at c.report.ensures))
      | in-Lookup w ↦ rw (w.in-Lookup.is, w.input-is)
          (runs_one _ _ _ _ _ _ (refl, (rw (w.deref-in-Lookup.ensures, w.of.ensures, base, interval, w.in-Lookup.is) at w.answer_lookup-outcome.ensures))
          (rw (w.output-is, w.errors-is, w.outcome-is) at c.report.ensures))
      | in-Generated w ↦ rw (w.in-Generated.is, w.input-is)
          (runs_one _ _ _ _ _ _ (refl, w.answer_generated-outcome.ensures) (rw (w.output-is, w.errors-is, w.outcome-is) at c.report.ensures))
      | in-Positions w ↦ rw (w.in-Positions.is, w.input-is)
          (runs_one _ _ _ _ _ _ w.answer_positions-outcome.ensures (rw (w.output-is, w.errors-is, w.outcome-is) at c.report.ensures))
      | in-Mappings w ↦ rw (w.in-Mappings.is, w.input-is)
          (runs_one _ _ _ _ _ _ (refl, w.answer_mappings-outcome.ensures) (rw (w.output-is, w.errors-is, w.outcome-is) at c.report.ensures))
      | in-Sources w ↦ rw (w.in-Sources.is, w.input-is)
          (runs_one _ _ _ _ _ _ (refl, w.answer_sources-outcome.ensures) (rw (w.output-is, w.errors-is, w.outcome-is) at c.report.ensures))
      | in-SourceContent w ↦ rw (w.in-SourceContent.is, w.input-is)
          (runs_one _ _ _ _ _ _ (refl, w.answer_content-outcome.ensures) (rw (w.output-is, w.errors-is, w.outcome-is) at c.report.ensures))
      | in-Compose w ↦ rw (w.in-Compose.is, w.input-is) (
        g.E.ByteSink.seen w.answer_compose-outcome.new.errors,
        runs_one _ _ _ _ _ _ (
          refl,
          (rw (w.deref-in-Compose.ensures, w.deref-in-Compose-2.ensures, base, w.in-Compose.is) at w.answer_compose-outcome.ensures),
        ) (rw (w.output-is, w.errors-is, w.outcome-is) at c.report.ensures),
      )
      | in-ComposeAll w ↦ rw (w.in-ComposeAll.is, w.input-is) (
        g.E.ByteSink.seen w.answer_compose_all-outcome.new.errors,
        runs_one _ _ _ _ _ _ (refl, w.answer_compose_all-outcome.ensures) (rw (w.output-is, w.errors-is, w.outcome-is) at c.report.ensures),
      )
      | in-Explain w ↦ rw (w.in-Explain.is, w.input-is)
          (runs_one _ _ _ _ _ _ (refl, w.answer_explain-outcome.ensures) (rw (w.output-is, w.errors-is, w.outcome-is) at c.report.ensures))
    ]

pub returns-in-Check : goal.returns-in-Check
returns-in-Check g c =
    let base = c.place_of-interval.ensures.base in
    let interval = c.place_of-interval.ensures.interval in
    rw c.in-Check.is (refl, (rw (c.deref.ensures, base, interval, c.in-Check.is) at c.answer_check.ensures))

pub returns-in-Fit : goal.returns-in-Fit
returns-in-Fit g c = rw c.in-Fit.is (refl, c.answer_fit.ensures)

pub returns-in-Rewrite : goal.returns-in-Rewrite
returns-in-Rewrite g c =
    let base = c.place_of-interval.ensures.base in
    let interval = c.place_of-interval.ensures.interval in
    rw c.in-Rewrite.is (rw (c.deref-in-Rewrite.ensures.value, base, interval, c.in-Rewrite.is) at c.answer_rewrite.ensures)

pub returns-in-Locate : goal.returns-in-Locate
returns-in-Locate g c = rw c.in-Locate.is c.answer_locate.ensures
