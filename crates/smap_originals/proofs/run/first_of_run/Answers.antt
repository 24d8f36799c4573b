use Rattle.std.proofs.Common.{◌≡◌, ◌+◌, ◌-◌, sym, ap, subst, ◌∙◌, arith}
use Rattle.std.specs.List.{AllWithin}
use Rattle.std.proofs.lemmas.Option.{get_or_from_slice_get}
use Rattle.smap_originals.specs.Originals.{original_order}
use Rattle.smap_originals.proofs.OrderLaws.{front_before, longer_front}
use Rattle.smap_originals.proofs.run.first_of_run.Goals as goal

pub returns-then-before-order-clause-before : goal.returns-then-before-order-clause-before
returns-then-before-order-clause-before c = λ k d low high.
    let there = c.at.ensures.read in
    let first = c.loop-first.first in
    let last = c.loop-first.invariant.run first c.at.result.now (omega arith) (omega (arith, c.loop-first.invariant.front)) in
    let up = c.requires.ordered.ordered (first - 1) first c.at.result.now (omega arith) (omega (arith, c.loop-first.invariant.front, c.requires.within)) in
    let here = ap original_order (get_or_from_slice_get c.args.places.now (first - 1) c.at.result.now c.at.result.now there) in
    front_before c.args.places.now (first - 1) c.args.order c.at.result.now c.requires.ordered.ordered there
    (omega (arith, last, up, here, c.original_order-before.ensures, c.if-before-order.true)) k d low (omega arith)

pub loop-first-preserved : goal.loop-first-preserved
loop-first-preserved c =
    let there = c.at.ensures.read in
    let first = c.loop-first.first in
    let counted = ap (λ m. m.comparisons) c.at.ensures.counted in
    let back : (first - 1) + 1 ≡ first = omega arith in
    let run = subst (λ n. AllWithin (λ p. original_order p ≡ c.args.order) c.args.places.now n (c.args.at + 1)) (sym back) c.loop-first.invariant.run in
    record {
      front = omega (arith, c.loop-first.invariant.front);
      run = longer_front c.args.places.now (first - 1) c.args.order c.at.result.now there
          (omega (arith, c.original_order-before.ensures, c.if-before-order.false)) (c.args.at + 1) run;
      counted = omega (arith, counted, c.loop-first.invariant.counted);
      none_decoded = ap (λ m. m.segments) c.at.ensures.counted ∙ c.loop-first.invariant.none_decoded;
    }
