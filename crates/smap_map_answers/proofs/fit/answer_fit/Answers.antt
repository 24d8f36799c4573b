use Rattle.std.proofs.Common.{Global, List, String, arith, map, subst, sym, ◌∙◌, string_bytes}
use Rattle.std.specs.Prelude.{max}
use Rattle.smap_replies.specs.Streams.{sinks_seen}
use Rattle.smap_replies.proofs.InTurnLaws.{all_reported, goes_on, stops}
use Rattle.smap_map_answers.specs.Fit.{FitsPair, pairs_of}
use Rattle.smap_replies.specs.InTurn.{ReportsEach}
use Rattle.smap_map_answers.proofs.FitLaws.{next_pair, no_pair}
use Rattle.smap_map_answers.proofs.fit.answer_fit.Goals as goal

pub loop-number-preserved : goal.loop-number-preserved
loop-number-preserved g c =
    let works = sym c.failed.ensures ∙ c.if-failed.false in
    let is = next_pair string_bytes c.as_slice-paths.result.now c.loop-number.number c.index-paths-at.result c.index-paths-behind.result
    (omega (arith, c.loop-number-test.true)) c.index-paths-at.is c.index-paths-behind.is in
    let before = sinks_seen (g.W.ByteSink.seen c.args.output.now) (g.E.ByteSink.seen c.args.errors.now) c.args.first.now in
    let now = sinks_seen (g.W.ByteSink.seen c.loop-number.output) (g.E.ByteSink.seen c.loop-number.errors) c.loop-number.first in
    let between = sinks_seen (g.W.ByteSink.seen c.report.new.output) (g.E.ByteSink.seen c.report.new.errors) c.report.new.first in
    rw c.max-status.ensures (
      works,
      goes_on (FitsPair (g.F.FileReader.gives c.args.reader.now) c.args.asked.now.options)
          0 _ _ _ _ c.loop-number.number c.loop-number.status c.report.result before now between _ is c.loop-number.invariant.1
          (rw (c.deref.ensures, c.deref-in-loop-number.ensures) at c.fitted_pair-outcome.ensures) c.report.ensures works,
    )

pub returns-after-loop-number : goal.returns-after-loop-number
returns-after-loop-number g c =
    let before = sinks_seen (g.W.ByteSink.seen c.args.output.now) (g.E.ByteSink.seen c.args.errors.now) c.args.first.now in
    let now = sinks_seen (g.W.ByteSink.seen c.loop-number.output) (g.E.ByteSink.seen c.loop-number.errors) c.loop-number.first in
    let none = no_pair string_bytes c.as_slice-paths.result.now c.loop-number.number (omega (arith, c.loop-number-test.false)) in
    let Reports = FitsPair (g.F.FileReader.gives c.args.reader.now) c.args.asked.now.options in
    subst (λ (paths : List (String Global)). ReportsEach Reports 0 (pairs_of (map string_bytes paths)) c.loop-number.status before now) c.as_slice-paths.ensures.value
    (all_reported Reports 0 _ _ c.loop-number.number c.loop-number.status before now none c.loop-number.invariant.1)

pub returns-then-failed : goal.returns-then-failed
returns-then-failed g c =
    let failed = sym c.failed.ensures ∙ c.if-failed.true in
    let is = next_pair string_bytes c.as_slice-paths.result.now c.loop-number.number c.index-paths-at.result c.index-paths-behind.result
    (omega (arith, c.loop-number-test.true)) c.index-paths-at.is c.index-paths-behind.is in
    let before = sinks_seen (g.W.ByteSink.seen c.args.output.now) (g.E.ByteSink.seen c.args.errors.now) c.args.first.now in
    let now = sinks_seen (g.W.ByteSink.seen c.loop-number.output) (g.E.ByteSink.seen c.loop-number.errors) c.loop-number.first in
    let between = sinks_seen (g.W.ByteSink.seen c.report.new.output) (g.E.ByteSink.seen c.report.new.errors) c.report.new.first in
    let Reports = FitsPair (g.F.FileReader.gives c.args.reader.now) c.args.asked.now.options in
    rw c.max-status.ensures (subst (λ (paths : List (String Global)). ReportsEach Reports 0 (pairs_of (map string_bytes paths))
    (max c.loop-number.status c.report.result) before between) c.as_slice-paths.ensures.value
    (stops Reports 0 _ _ _ _ c.loop-number.number c.loop-number.status c.report.result before now between _ is c.loop-number.invariant.1
    (rw (c.deref.ensures, c.deref-in-loop-number.ensures) at c.fitted_pair-outcome.ensures) c.report.ensures failed))
