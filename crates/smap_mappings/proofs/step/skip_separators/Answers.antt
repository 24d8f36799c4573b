use Rattle.std.proofs.Common.{arith, refl, eq-eqb}
use Rattle.smap_mappings.specs.State.{values_at}
use Rattle.smap_mappings.proofs.ValueFaultLaws.{column_zero}
use Rattle.smap_mappings.proofs.StepLaws.{skips_line_end, skips_comma}
use Rattle.smap_mappings.proofs.step.skip_separators.Goals as goal

pub loop-at-preserved-in-59 : goal.loop-at-preserved-in-59
loop-at-preserved-in-59 c = record {
  inside = omega arith;
  line_within = omega arith;
  onward = omega arith;
  down = omega arith;
  in_range = λ range. column_zero (values_at c.loop-at.at) (c.loop-at.invariant.in_range range);
  after = λ j after. skips_line_end c.args.bytes.now j c.loop-at.at _ (c.loop-at.invariant.after j after) c.loop-at-test.true (eq-eqb _ _ c.in-59.is) refl;
}

pub loop-at-preserved : goal.loop-at-preserved
loop-at-preserved c = record {
  inside = omega arith;
  line_within = omega arith;
  onward = omega arith;
  down = omega arith;
  in_range = c.loop-at.invariant.in_range;
  after = λ j after. skips_comma c.args.bytes.now j c.loop-at.at _ (c.loop-at.invariant.after j after) c.loop-at-test.true (eq-eqb _ _ c.in-44.is) refl;
}
