use Rattle.std.proofs.Common.{refl, subst, sym, ◌∙◌}
use Rattle.std.specs.List.{AllByRecursion}
use Rattle.std.proofs.lemmas.Bool.{not-false}
use Rattle.smap_index.specs.Faults.{order_fault, overlap_fault, range_fault}
use Rattle.smap_index.specs.Private.Walk.{IsTextInOrder}
use Rattle.smap_index.proofs.RefusalLaws.{at_interval, at_order, at_overlap, at_range, at_none, joined_in_range, seen}
use Rattle.smap_index.proofs.OrderLaws.{joined_in_order}
use Rattle.smap_index.proofs.MarkLaws.{index_made}
use Rattle.smap_index.proofs.index.Index.build.Goals as goal

pub returns-then-not-is_interval : goal.returns-then-not-is_interval
returns-then-not-is_interval c =
    rw (at_interval c.args.parts.items c.args.k (sym c.is_interval.ensures ∙ c.if-not-is_interval.true)) refl

pub returns-in-Some : goal.returns-in-Some
returns-in-Some c =
    let order = seen order_fault _ _ _ _ c.deref.ensures.value c.first_out_of_order.ensures c.in-Some.is in
    rw (at_order c.args.parts.items c.args.k (sym c.is_interval.ensures ∙ c.if-not-is_interval.false) _ order) refl

pub returns-in-Some-overlap : goal.returns-in-Some-overlap
returns-in-Some-overlap c =
    let order = seen order_fault _ _ _ _ c.deref.ensures.value c.first_out_of_order.ensures c.in_default.is in
    let overlap = seen overlap_fault _ _ _ _ c.deref-3.ensures.value c.mark_parts-walk.ensures.overlap c.in-Some-overlap.is in
    rw (at_overlap c.args.parts.items c.args.k (sym c.is_interval.ensures ∙ c.if-not-is_interval.false) _ order overlap) refl

pub returns-in-Some-past_limit : goal.returns-in-Some-past_limit
returns-in-Some-past_limit c =
    let order = seen order_fault _ _ _ _ c.deref.ensures.value c.first_out_of_order.ensures c.in_default.is in
    let overlap = seen overlap_fault _ _ _ _ c.deref-3.ensures.value c.mark_parts-walk.ensures.overlap c.in_default-overlap.is in
    let range = seen range_fault _ _ _ _ c.deref-3.ensures.value (c.mark_parts-walk.ensures.past_limit c.in_default-overlap.is) c.in-Some-past_limit.is in
    rw (at_range c.args.parts.items c.args.k (sym c.is_interval.ensures ∙ c.if-not-is_interval.false) _ order overlap range) refl

pub returns-then-not-walk : goal.returns-then-not-walk
returns-then-not-walk c =
    let order = seen order_fault _ _ _ _ c.deref.ensures.value c.first_out_of_order.ensures c.in_default.is in
    let overlap = seen overlap_fault _ _ _ _ c.deref-3.ensures.value c.mark_parts-walk.ensures.overlap c.in_default-overlap.is in
    let range = seen range_fault _ _ _ _ c.deref-3.ensures.value (c.mark_parts-walk.ensures.past_limit c.in_default-overlap.is) c.in_default-past_limit.is in
    rw (at_none c.args.parts.items c.args.k (sym c.is_interval.ensures ∙ c.if-not-is_interval.false) order overlap range) refl

pub returns : goal.returns
returns c =
    let order = seen order_fault _ _ _ _ c.deref.ensures.value c.first_out_of_order.ensures c.in_default.is in
    let overlap = seen overlap_fault _ _ _ _ c.deref-3.ensures.value c.mark_parts-walk.ensures.overlap c.in_default-overlap.is in
    let range = seen range_fault _ _ _ _ c.deref-3.ensures.value (c.mark_parts-walk.ensures.past_limit c.in_default-overlap.is) c.in_default-past_limit.is in
    let texts = let P = AllByRecursion IsTextInOrder in subst P c.deref-3.ensures.value (c.mark_parts-walk.ensures.ordered c.in_default-overlap.is) in
    rw (at_none c.args.parts.items c.args.k (sym c.is_interval.ensures ∙ c.if-not-is_interval.false) order overlap range) (
    index_made c.deref-2.result.now c.deref-3.result.now c.args.parts.items c.args.k c.reserve.new.self c.mark_parts-walk.new.checkpoints
    c.totals_of-totals.result.segments c.totals_of-totals.result.used_lines c.deref-2.ensures.value c.deref-3.ensures.value
    (c.reserve.ensures ∙ c.new-checkpoints.ensures)
    (c.mark_parts-walk.ensures.marked c.in_default-overlap.is c.in_default-past_limit.is (not-false _ c.if-not-walk.false))
    c.totals_of-totals.ensures.segments c.totals_of-totals.ensures.used_lines c.totals_of-totals.ensures.few
    (joined_in_order c.args.parts.items order overlap texts) (joined_in_range c.args.parts.items range))

pub invariant_of-result : goal.invariant_of-result
invariant_of-result c =
    let order = seen order_fault _ _ _ _ c.deref.ensures.value c.first_out_of_order.ensures c.in_default.is in
    let overlap = seen overlap_fault _ _ _ _ c.deref-3.ensures.value c.mark_parts-walk.ensures.overlap c.in_default-overlap.is in
    let range = seen range_fault _ _ _ _ c.deref-3.ensures.value (c.mark_parts-walk.ensures.past_limit c.in_default-overlap.is) c.in_default-past_limit.is in
    let texts = let P = AllByRecursion IsTextInOrder in subst P c.deref-3.ensures.value (c.mark_parts-walk.ensures.ordered c.in_default-overlap.is) in
    record {
      sound = at_none c.args.parts.items c.args.k (sym c.is_interval.ensures ∙ c.if-not-is_interval.false) order overlap range;
      holds = index_made c.deref-2.result.now c.deref-3.result.now c.args.parts.items c.args.k c.reserve.new.self
          c.mark_parts-walk.new.checkpoints c.totals_of-totals.result.segments c.totals_of-totals.result.used_lines c.deref-2.ensures.value
          c.deref-3.ensures.value (c.reserve.ensures ∙ c.new-checkpoints.ensures)
          (c.mark_parts-walk.ensures.marked c.in_default-overlap.is c.in_default-past_limit.is (not-false _ c.if-not-walk.false))
          c.totals_of-totals.ensures.segments c.totals_of-totals.ensures.used_lines c.totals_of-totals.ensures.few
          (joined_in_order c.args.parts.items order overlap texts) (joined_in_range c.args.parts.items range);
    }
