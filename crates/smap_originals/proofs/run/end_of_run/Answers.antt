use Rattle.std.proofs.Common.{◌+◌, ◌-◌, ◌<◌, length, ap, ◌∙◌, arith}
use Rattle.std.proofs.lemmas.Option.{get_or_from_slice_get}
use Rattle.smap_originals.specs.Originals.{original_order}
use Rattle.smap_originals.proofs.OrderLaws.{back_not_before, longer_back}
use Rattle.smap_originals.proofs.run.end_of_run.Goals as goal

pub returns-then-behind-order-clause-behind : goal.returns-then-behind-order-clause-behind
returns-then-behind-order-clause-behind c = λ k d low high.
    let there = c.at.ensures.read in
    let end = c.loop-end.end in
    let inside : end < length c.args.places.now = omega (arith, c.len-most.ensures.count) in
    let last = c.loop-end.invariant.run (end - 1) c.at.result.now (omega (arith, c.loop-end.invariant.begun)) (omega (arith, c.loop-end.invariant.begun)) in
    let up = c.requires.ordered.ordered (end - 1) end c.at.result.now (omega arith) inside in
    let here = ap original_order (get_or_from_slice_get c.args.places.now end c.at.result.now c.at.result.now there) in
    let more = back_not_before c.args.places.now end (c.args.order + 1) c.at.result.now c.requires.ordered.ordered there
    (omega (arith, last, up, here, c.original_order-behind.ensures, c.if-behind-order.true)) k d low high in
    omega (arith, more)

pub loop-end-preserved : goal.loop-end-preserved
loop-end-preserved c =
    let there = c.at.ensures.read in
    let counted = ap (λ m. m.comparisons) c.at.ensures.counted in
    record {
      begun = omega (arith, c.loop-end.invariant.begun);
      within = omega (arith, c.len-most.ensures.count);
      run = longer_back c.args.places.now c.loop-end.end c.args.order c.at.result.now there
          (omega (arith, c.original_order-behind.ensures, c.if-behind-order.false)) c.args.at c.loop-end.invariant.run;
      counted = omega (arith, counted, c.loop-end.invariant.counted);
      none_decoded = ap (λ m. m.segments) c.at.ensures.counted ∙ c.loop-end.invariant.none_decoded;
    }
