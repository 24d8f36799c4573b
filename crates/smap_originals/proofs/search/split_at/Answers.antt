use Rattle.std.proofs.Common.{◌<◌, ◌≤◌, sym, ap, refl, ◌∙◌, arith}
use Rattle.std.proofs.lemmas.Bool.{ltb-false, ltb-true}
use Rattle.std.proofs.lemmas.Option.{slice_get_past}
use Rattle.smap_originals.specs.Private.Run.{bound_of}
use Rattle.smap_index.proofs.Halving.{one_more}
use Rattle.smap_originals.proofs.OrderLaws.{back_not_before, front_before, just_passed}
use Rattle.smap_originals.proofs.search.split_at.Goals as goal

pub loop-low-init : goal.loop-low-init
loop-low-init c = record {
  low = omega arith;
  inside = omega (arith, c.len-high.ensures.count);
  front = λ k d low high. absurd (omega arith);
  back = λ k d low high. absurd (omega (arith, c.len-high.ensures.count));
  last = refl;
  next = sym (slice_get_past c.args.places.now _ (omega (arith, c.len-high.ensures.count)));
  few = λ b below. (b, omega arith, omega (arith, c.len-high.ensures.count));
  none_decoded = refl;
}

pub at-requires-clause-room : goal.at-requires-clause-room
at-requires-clause-room c =
    let most = c.loop-low.invariant.few 64 (omega (arith, c.len-high.ensures.count, c.len-high.ensures.small)) in
    omega (arith, most.1, c.requires.room)

pub loop-low-preserved-then-stands_before : goal.loop-low-preserved-then-stands_before
loop-low-preserved-then-stands_before c =
    let there = c.at.ensures.read in
    let counted = ap (λ m. m.comparisons) c.at.ensures.counted in
    let bound = bound_of c.args.direction c.args.order in
    let less : c.original_order-here.result < bound = ltb-true c.original_order-here.result bound (sym c.stands_before.ensures ∙ c.if-stands_before.true) in
    record {
      low = omega arith;
      inside = c.loop-low.invariant.inside;
      front = front_before c.args.places.now _ bound c.at.result.now c.requires.ordered.ordered there (omega (arith, less, c.original_order-here.ensures));
      back = c.loop-low.invariant.back;
      last = just_passed c.args.places.now _ c.at.result.now there;
      next = c.loop-low.invariant.next;
      few = λ b below. one_more _ _ _ b _ _ (omega arith) (omega arith) counted (c.loop-low.invariant.few b below);
      none_decoded = ap (λ m. m.segments) c.at.ensures.counted ∙ c.loop-low.invariant.none_decoded;
    }

pub loop-low-preserved : goal.loop-low-preserved
loop-low-preserved c =
    let there = c.at.ensures.read in
    let counted = ap (λ m. m.comparisons) c.at.ensures.counted in
    let bound = bound_of c.args.direction c.args.order in
    let more : bound ≤ c.original_order-here.result = ltb-false c.original_order-here.result bound (sym c.stands_before.ensures ∙ c.if-stands_before.false) in
    record {
      low = omega arith;
      inside = omega (arith, c.loop-low.invariant.inside);
      front = c.loop-low.invariant.front;
      back = back_not_before c.args.places.now _ bound c.at.result.now c.requires.ordered.ordered there (omega (arith, more, c.original_order-here.ensures));
      last = c.loop-low.invariant.last;
      next = sym there;
      few = λ b below. one_more _ _ _ b _ _ (omega arith) (omega arith) counted (c.loop-low.invariant.few b below);
      none_decoded = ap (λ m. m.segments) c.at.ensures.counted ∙ c.loop-low.invariant.none_decoded;
    }

pub returns-clause-at_most : goal.returns-clause-at_most
returns-clause-at_most c =
    let most = c.loop-low.invariant.few 64 (omega (arith, c.len-high.ensures.count, c.len-high.ensures.small)) in
    omega (arith, most.1)
