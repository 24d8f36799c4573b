use Rattle.std.proofs.Common.{◌-◌, ◌+◌, ◌/◌, ap, arith, length, sym, subst, ◌∙◌, List}
use Rattle.std.specs.Prelude.{slice_get}
use Rattle.smap_declarations.specs.Declarations.{Named}
use Rattle.smap_index.proofs.Halving.{one_more}
use Rattle.smap_declarations.specs.Private.Found.{named}
use Rattle.smap_declarations.specs.Private.Order.{IsInOrder}
use Rattle.smap_declarations.proofs.OrderLaws.{behind, in_front}
use Rattle.smap_declarations.proofs.declarations.Declarations.end_up_to.Goals as goal

pub count_comparison-requires : goal.count_comparison-requires
count_comparison-requires c =
    let most = c.loop-low.invariant.few 64 (omega (arith, c.len-high.ensures, ap (λ (l : List Named). length l) c.self.view_is)) in
    omega (arith, most.1, c.requires.room.0)

pub loop-low-preserved-then-is_up_to : goal.loop-low-preserved-then-is_up_to
loop-low-preserved-then-is_up_to c =
    let counted = ap (λ m. m.comparisons) c.count_comparison.ensures in
    let middle = c.loop-low.low + (c.loop-low.high - c.loop-low.low) / 2 in
    record {
      ends = omega arith;
      inside = c.loop-low.invariant.inside;
      below = in_front c.args.name.now c.args.place c.args.self.now (subst IsInOrder c.self.view_is c.self.invariant) middle (named c.keyed_at-key.result.0)
          (ap (λ (l : List Named). slice_get l middle) (sym c.self.view_is) ∙ c.keyed_at-key.ensures.found)
          (omega (arith, c.loop-low.invariant.inside)) (sym c.is_up_to.ensures ∙ c.if-is_up_to.true);
      above = c.loop-low.invariant.above;
      onward = omega (arith, counted, c.loop-low.invariant.onward);
      few = λ b below. one_more _ _ _ b _ _ (omega arith) (omega arith) counted (c.loop-low.invariant.few b below);
      decoded = ap (λ m. m.segments) c.count_comparison.ensures ∙ c.loop-low.invariant.decoded;
    }

pub loop-low-preserved : goal.loop-low-preserved
loop-low-preserved c =
    let counted = ap (λ m. m.comparisons) c.count_comparison.ensures in
    let middle = c.loop-low.low + (c.loop-low.high - c.loop-low.low) / 2 in
    record {
      ends = omega arith;
      inside = omega (arith, c.loop-low.invariant.inside);
      below = c.loop-low.invariant.below;
      above = behind c.args.name.now c.args.place c.args.self.now (subst IsInOrder c.self.view_is c.self.invariant) middle (named c.keyed_at-key.result.0)
          (ap (λ (l : List Named). slice_get l middle) (sym c.self.view_is) ∙ c.keyed_at-key.ensures.found)
          (omega (arith, c.loop-low.invariant.inside)) (sym c.is_up_to.ensures ∙ c.if-is_up_to.false);
      onward = omega (arith, counted, c.loop-low.invariant.onward);
      few = λ b below. one_more _ _ _ b _ _ (omega arith) (omega arith) counted (c.loop-low.invariant.few b below);
      decoded = ap (λ m. m.segments) c.count_comparison.ensures ∙ c.loop-low.invariant.decoded;
    }
