use Rattle.std.proofs.Common.{◌+◌, ◌*◌, ◌%◌, ◌<◌, ◌≤◌, subst, arith, sym, ◌∙◌, ap, add-one}
use Rattle.std.proofs.Math.Nat.{pow-suc}
use Rattle.std.proofs.lemmas.List.{take_all}
use Rattle.smap_mappings.specs.Vlq.{digit_sum, unsigned_of}
use Rattle.smap_mappings.proofs.Numbers.{scale_below, digit_step, digit_product}
use Rattle.smap_mappings.proofs.CutLaws.{digit_sum_next}
use Rattle.smap_mappings.proofs.measures.unsigned_value.Goals as goal
use Rattle.smap_mappings.proofs.measures.unsigned_value.Goals.{After-from}

-- the weight of the digit is small
low_scale : (c : After-from) → c.loop-i.scale ≤ 1073741824
low_scale c = subst (λ s. s ≤ 1073741824) (sym c.loop-i.invariant.scale) (scale_below c.loop-i.i (omega arith))

low_digit : (c : After-from) → c.from.result < 32
low_digit c = omega (arith, c.from.ensures)

pub overflow_add-unsigned : goal.overflow_add-unsigned
overflow_add-unsigned c =
    let from = (goal.at.overflow_add-unsigned c).After-from in
    let most = digit_product c.from.result c.loop-i.scale (low_scale from) (low_digit from) in
    let low = low_scale from in
    record { fits = omega arith }

pub overflow_mul-scale : goal.overflow_mul-scale
overflow_mul-scale c = let low = low_scale (goal.at.overflow_mul-scale c).After-from in record { fits = omega arith }

pub loop-i-preserved : goal.loop-i-preserved
loop-i-preserved c = record {
  value = (λ i. c.loop-i.invariant.value i + (c.from.ensures ∙ ap (λ value. value % 32) c.digit_value.ensures) i * c.loop-i.invariant.scale i)
      ∙ sym (digit_sum_next c.args.digits.now c.loop-i.i (omega arith));
  scale = ap (λ s. s * 32) c.loop-i.invariant.scale ∙ sym (rw add-one (pow-suc 32 c.loop-i.i));
  below = digit_step c.loop-i.unsigned c.from.result c.loop-i.scale c.loop-i.invariant.below (low_digit (goal.at.loop-i-preserved c).After-from);
}

pub returns : goal.returns
unfolding unsigned_of
returns c = c.loop-i.invariant.value ∙ ap (digit_sum 0) (take_all c.loop-i.i c.args.digits.now (omega arith))
