use Rattle.std.proofs.Common.{inl, inr, refl, sym, ◌∙◌}
use Rattle.smap_map_answers.specs.Check.{paths_of}
use Rattle.smap_replies.specs.Outcome.{report_of}
use Rattle.smap_replies.specs.Streams.{sinks_seen}
use Rattle.smap_map_answers.proofs.check.answer_check.Goals as goal

pub returns : goal.returns
unfolding paths_of
returns g c =
    let works = sym c.failed.ensures ∙ c.if-failed.false in (
      report_of c.checked_file-outcome.result,
      c.report-status.result,
      sinks_seen (g.W.ByteSink.seen c.report-status.new.output) (g.E.ByteSink.seen c.report-status.new.errors) c.report-status.new.first,
      (rw c.form_of.ensures at c.checked_file-outcome.ensures),
      c.report-status.ensures,
      inr (works, (c.check_others-others.result, (rw (c.deref.ensures.value, c.form_of.ensures) at c.check_others-others.ensures), c.max.ensures)),
    )

pub returns-then-failed : goal.returns-then-failed
unfolding paths_of
returns-then-failed g c =
    let broken = sym c.failed.ensures ∙ c.if-failed.true in (
      report_of c.checked_file-outcome.result,
      c.report-status.result,
      sinks_seen (g.W.ByteSink.seen c.report-status.new.output) (g.E.ByteSink.seen c.report-status.new.errors) c.report-status.new.first,
      (rw c.form_of.ensures at c.checked_file-outcome.ensures),
      c.report-status.ensures,
      inl (broken, refl, refl),
    )
