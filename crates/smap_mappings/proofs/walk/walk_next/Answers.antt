use Rattle.std.proofs.Common.{arith, refl, sym, ◌∙◌}
use Rattle.smap_mappings.proofs.CheckLaws.{all_after, is_new, checks_more, from_bool_most}
use Rattle.smap_mappings.proofs.walk.walk_next.Goals as goal

pub returns-then-next-bytes-clause-none : goal.returns-then-next-bytes-clause-none
returns-then-next-bytes-clause-none c none =
    let at = c.args.walk.now.segments in
    all_after c.args.bytes.now at c.skip_separators-next.result (c.skip_separators-next.ensures.after at c.requires.walked.checks.after) (omega arith)

pub returns-clause-some : goal.returns-clause-some
returns-clause-some c =
    let text = c.args.bytes.now in
    let walk = c.args.walk.now in
    let checks = c.requires.walked.checks in
    let next = c.skip_separators-next.result in
    let step = c.in_ok-kind.ensures.some in
    let steps = step.steps walk.segments (c.skip_separators-next.ensures.after walk.segments checks.after) in
    record {
      walks = record {
        checks = checks_more text c.args.sources c.args.names walk.at next c.in_ok-kind.at _ walk.segments walk.used_lines
            c.from.result checks steps step.line c.skip_separators-next.ensures.onward step.ahead
            (is_new text c.args.sources c.args.names walk.at next walk.segments walk.used_lines checks c.skip_separators-next.ensures.down
            c.is_new_line-is_new.result c.is_new_line-is_new.ensures ∙ sym c.from.ensures)
            (rw c.from.ensures (from_bool_most c.is_new_line-is_new.result));
        in_range = step.in_range;
      };
      next = steps.next;
      one = refl;
      onward = omega (arith, c.skip_separators-next.ensures.onward, step.ahead);
    }
