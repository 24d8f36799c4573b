use Rattle.std.proofs.Common.{arith, sym, ◌∙◌}
use Rattle.smap_mappings.proofs.CheckLaws.{none_at_end, lines_at_end, all_after, is_new, checks_more, from_bool_most}
use Rattle.smap_mappings.proofs.check.count_after.Goals as goal

pub loop-at-init : goal.loop-at-init
loop-at-init c = c.requires.walked.checks

pub returns-then-next-bytes-clause-faulty : goal.returns-then-next-bytes-clause-faulty
returns-then-next-bytes-clause-faulty c =
    none_at_end c.args.bytes.now c.args.sources c.args.names c.loop-at.at c.skip_separators-next.result c.loop-at.segments
    c.loop-at.used_lines c.loop-at.invariant (c.skip_separators-next.ensures.after c.loop-at.segments c.loop-at.invariant.after) (omega arith)

pub returns-then-next-bytes-clause-segments : goal.returns-then-next-bytes-clause-segments
returns-then-next-bytes-clause-segments c =
    all_after c.args.bytes.now c.loop-at.segments c.skip_separators-next.result
    (c.skip_separators-next.ensures.after c.loop-at.segments c.loop-at.invariant.after) (omega arith)

pub returns-then-next-bytes-clause-used_lines : goal.returns-then-next-bytes-clause-used_lines
returns-then-next-bytes-clause-used_lines c =
    lines_at_end c.args.bytes.now c.args.sources c.args.names c.loop-at.at c.skip_separators-next.result c.loop-at.segments
    c.loop-at.used_lines c.loop-at.invariant (c.skip_separators-next.ensures.after c.loop-at.segments c.loop-at.invariant.after) (omega arith)

pub returns-in-Err-clause-faulty : goal.returns-in-Err-clause-faulty
returns-in-Err-clause-faulty c =
    let after = c.skip_separators-next.ensures.after c.loop-at.segments c.loop-at.invariant.after in
    record {
      j = c.loop-at.segments;
      after = after;
      within = omega arith;
      inside = c.skip_separators-next.ensures.stops (omega arith);
      faulty = c.loop-at.invariant.passed ∙ c.in-Err.ensures.err c.loop-at.segments after;
    }

pub loop-at-preserved : goal.loop-at-preserved
loop-at-preserved c =
    let checks = c.loop-at.invariant in
    let next = c.skip_separators-next.result in
    let text = c.args.bytes.now in
    let steps = c.in-Ok.ensures.ok c.loop-at.segments (c.skip_separators-next.ensures.after c.loop-at.segments checks.after) in
    checks_more text c.args.sources c.args.names c.loop-at.at next c.in-Ok.after _ c.loop-at.segments c.loop-at.used_lines c.from-used_lines.result checks steps
    c.in-Ok.ensures.ahead.2 c.skip_separators-next.ensures.onward c.in-Ok.ensures.ahead.0
    (is_new text c.args.sources c.args.names c.loop-at.at next c.loop-at.segments c.loop-at.used_lines checks
    c.skip_separators-next.ensures.down c.is_new_line.result c.is_new_line.ensures ∙ sym c.from-used_lines.ensures)
    (rw c.from-used_lines.ensures (from_bool_most c.is_new_line.result))
