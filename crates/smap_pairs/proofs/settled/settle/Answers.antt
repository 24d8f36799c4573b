use Rattle.std.proofs.Common.{◌≡◌, ◌+◌, ◌-◌, ◌<◌, ap, arith, get_or, length, reverse, sym, take, ◌∙◌}
use Rattle.std.proofs.lemmas.List.{take_rest}
use Rattle.smap_pairs.specs.Seen.{settled}
use Rattle.smap_pairs.proofs.SeenLaws.{all_settled, leaves, no_byte, none_settled, settled_to, settles}
use Rattle.smap_pairs.proofs.settled.settle.Goals as goal

pub loop-i-init : goal.loop-i-init
loop-i-init c = record { within = omega arith; settled = none_settled c.args.line.now c.args.seen.now }

pub returns : goal.returns
returns c =
    let none : c.loop-i.i ≡ 0 = omega arith in
    c.loop-i.invariant.settled ∙ ap (settled_to c.args.line.now c.args.seen.now) none ∙ all_settled c.args.line.now c.args.seen.now

pub loop-i-preserved-in-loop-i : goal.loop-i-preserved-in-loop-i
loop-i-preserved-in-loop-i c =
    let line = c.args.line.now in
    let now = c.loop-i.seen in
    let i = c.loop-i.i - 1 in
    let here : i < length c.args.seen.now = omega arith in
    let next : c.loop-i.i ≡ i + 1 = omega arith in
    record {
      within = omega arith;
      settled = settles line c.args.seen.now now i c.settled.result here (c.loop-i.invariant.settled ∙ ap (settled_to line c.args.seen.now) next)
          (c.settled.ensures ∙ ap (settled (reverse (take i now)) (get_or now i no_byte)) (take_rest line (i + 1)));
    }

pub loop-i-preserved : goal.loop-i-preserved
loop-i-preserved c =
    let i = c.loop-i.i - 1 in
    let here : i < length c.args.seen.now = omega arith in
    let next : c.loop-i.i ≡ i + 1 = omega arith in
    record {
      within = omega arith;
      settled = leaves c.args.line.now c.args.seen.now c.loop-i.seen i here
          (c.loop-i.invariant.settled ∙ ap (settled_to c.args.line.now c.args.seen.now) next) c.if-seen-i-eq58.false c.if-seen-i-eq39.false
          (sym c.may_end_sign.ensures ∙ c.if-may_end_sign.false);
    }
