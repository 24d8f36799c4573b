use Rattle.std.proofs.Common.{ℕ, ◌+◌, ◌-◌, ◌<◌, ◌≤◌, Option, Some, None, arith, refl, ◌∙◌}
use Rattle.std.specs.Prelude.{IfSome}
use Rattle.smap_mappings.specs.declared.cursor.Cursor.{Cursor}
use Rattle.smap_mappings.proofs.CheckLaws.{checks_on_line, on_line_more}
use Rattle.smap_mappings.proofs.StepLaws.{skips_comma}
use Rattle.smap_mappings.proofs.walk.walk_line.Goals as goal

-- a walk that has not passed as many as it may passes one more
one_more : (most : Option ℕ) (segments start : ℕ) → start ≤ segments → IfSome most (λ most. segments - start < most)
    → IfSome most (λ most. segments + 1 ≤ start + most)
one_more None segments start onward within = tt
one_more (Some most) segments start onward within = omega (arith, onward, within)

pub loop-most-preserved : goal.loop-most-preserved
loop-most-preserved c =
    let text = c.args.bytes.now in
    let walk = c.loop-most.walk in
    let start = c.args.walk.now in
    let checks = c.loop-most.invariant.walked.checks in
    let next : Cursor = record walk.at { place = walk.at.place + 1 } in
    let room = c.is_joined.ensures.room c.loop-most-test.true in
    let passed = skips_comma text walk.segments walk.at next checks.after (omega arith) (c.is_joined.ensures.comma c.loop-most-test.true) refl in
    let step = c.in-Some.ensures in
    let steps = step.steps walk.segments passed in
    record {
      walked = record {
        checks = checks_on_line text c.args.sources c.args.names walk.at next c.in-Some.at _ walk.segments walk.used_lines
            checks c.loop-most.invariant.some steps step.line refl (omega arith) step.ahead;
        in_range = step.in_range;
      };
      some = omega arith;
      onward = omega (arith, step.ahead, c.loop-most.invariant.onward);
      further = omega (arith, c.loop-most.invariant.further);
      few = one_more c.args.most walk.segments c.args.walk.now.segments c.loop-most.invariant.further (c.is_at_end.ensures c.if-is_at_end.false);
      line = step.line ∙ c.loop-most.invariant.line;
      on_line = on_line_more text start.at.line start.segments walk.segments _ c.loop-most.invariant.on_line
          steps.next.mapping_is (step.line ∙ c.loop-most.invariant.line);
    }
