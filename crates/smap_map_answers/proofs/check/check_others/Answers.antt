use Rattle.std.proofs.Common.{arith, ap, map, sym, ◌∙◌, ◌+◌, string_bytes}
use Rattle.std.proofs.lemmas.List.{drop_all}
use Rattle.std.specs.Prelude.{option_copied}
use Rattle.smap_replies.specs.Streams.{sinks_seen}
use Rattle.smap_replies.proofs.InTurnLaws.{all_reported, goes_on, stops}
use Rattle.smap_map_answers.specs.Check.{ChecksFile}
use Rattle.smap_replies.proofs.NextLaws.{next_of}
use Rattle.smap_map_answers.proofs.check.check_others.Goals as goal

pub loop-number-preserved : goal.loop-number-preserved
loop-number-preserved g c =
    let works = sym c.failed.ensures ∙ c.if-failed.false in
    let is = next_of string_bytes c.args.paths.now c.loop-number.number c.index-paths-number.result (omega (arith, c.loop-number-test.true))
    c.index-paths-number.is in
    let before = sinks_seen (g.W.ByteSink.seen c.args.output.now) (g.E.ByteSink.seen c.args.errors.now) c.args.first.now in
    let now = sinks_seen (g.W.ByteSink.seen c.loop-number.output) (g.E.ByteSink.seen c.loop-number.errors) c.loop-number.first in
    let between = sinks_seen (g.W.ByteSink.seen c.report.new.output) (g.E.ByteSink.seen c.report.new.errors) c.report.new.first in
    rw c.max-status.ensures (
      works,
      goes_on (ChecksFile (g.F.FileReader.gives c.args.maps.now.files.now) (option_copied c.args.maps.now.base) c.args.maps.now.interval c.args.how.form c.args.how.explain)
          1 _ _ _ _
          (c.loop-number.number + 1) c.loop-number.status c.report.result before now between _ is c.loop-number.invariant.1
          (rw c.deref.ensures at c.checked_file-outcome.ensures) c.report.ensures works,
    )

pub returns-after-loop-number : goal.returns-after-loop-number
returns-after-loop-number g c =
    let before = sinks_seen (g.W.ByteSink.seen c.args.output.now) (g.E.ByteSink.seen c.args.errors.now) c.args.first.now in
    let now = sinks_seen (g.W.ByteSink.seen c.loop-number.output) (g.E.ByteSink.seen c.loop-number.errors) c.loop-number.first in
    let none = drop_all c.loop-number.number c.args.paths.now (omega (arith, c.loop-number-test.false)) in
    all_reported (ChecksFile (g.F.FileReader.gives c.args.maps.now.files.now) (option_copied c.args.maps.now.base) c.args.maps.now.interval c.args.how.form c.args.how.explain)
    1 (map string_bytes c.args.paths.now) _ (c.loop-number.number + 1) c.loop-number.status before now (ap (map string_bytes) none) c.loop-number.invariant.1

pub returns-then-failed : goal.returns-then-failed
returns-then-failed g c =
    let failed = sym c.failed.ensures ∙ c.if-failed.true in
    let is = next_of string_bytes c.args.paths.now c.loop-number.number c.index-paths-number.result (omega (arith, c.loop-number-test.true))
    c.index-paths-number.is in
    let before = sinks_seen (g.W.ByteSink.seen c.args.output.now) (g.E.ByteSink.seen c.args.errors.now) c.args.first.now in
    let now = sinks_seen (g.W.ByteSink.seen c.loop-number.output) (g.E.ByteSink.seen c.loop-number.errors) c.loop-number.first in
    let between = sinks_seen (g.W.ByteSink.seen c.report.new.output) (g.E.ByteSink.seen c.report.new.errors) c.report.new.first in
    rw c.max-status.ensures (stops (ChecksFile (g.F.FileReader.gives c.args.maps.now.files.now) (option_copied c.args.maps.now.base) c.args.maps.now.interval
    c.args.how.form c.args.how.explain) 1 _ _ _ _ (c.loop-number.number + 1) c.loop-number.status c.report.result before now between _ is
    c.loop-number.invariant.1 (rw c.deref.ensures at c.checked_file-outcome.ensures) c.report.ensures failed)
