use Rattle.std.proofs.Common.{sym, ap, ◌∙◌, ◌≡◌, ◌+◌, ◌*◌, arith, length, min}
use Rattle.smap_index.specs.LineStarts.{first_starts}
use Rattle.smap_index.specs.Private.Search.{lines_at}
use Rattle.smap_index.proofs.LineStartLaws.{resized, next_far, all_started, length-first_starts}
use Rattle.smap_index.proofs.line_starts.LineStarts.of.Goals as goal

pub loop-i-preserved : goal.loop-i-preserved
loop-i-preserved c =
    let table = c.args.table.now in
    let there = c.at-in-loop-i.ensures.read in
    let checkpoint = c.at-in-loop-i.result.now in
    let before = c.loop-i.invariant in
    let most : c.min-in-loop-i.result ≡ min (checkpoint.line + 1) (4 * length table) = omega (arith, c.min-in-loop-i.ensures, c.len-count.ensures) in
    let next = c.in_ok-resize.ensures.items
    ∙ resized table c.requires c.loop-i.starts.items c.loop-i.i (4 * length table) _ _ checkpoint there
    (omega (arith, c.loop-i-test.true, c.len-count.ensures)) before.started before.far most (omega (arith, c.loop-i.starts.ok.0)) in
    let long = ap length next ∙ length-first_starts (lines_at table) _ in
    record {
      started = next ∙ ap (first_starts (lines_at table)) (sym long);
      far = long ∙ next_far table c.requires c.loop-i.i (4 * length table) _ checkpoint there most;
      counted = ap (λ m. m.comparisons) c.at-in-loop-i.ensures.counted ∙ omega (arith, before.counted);
    }

pub returns : goal.returns
returns c =
    c.loop-i.invariant.started
    ∙ ap (first_starts (lines_at c.args.table.now)) (c.loop-i.invariant.far
    ∙ all_started c.args.table.now c.loop-i.i (omega (arith, c.loop-i-test.false, c.len-count.ensures)) (omega (arith, c.len-count.ensures)))
