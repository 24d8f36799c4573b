use Rattle.std.proofs.Common.{◌+◌, ap, arith, length, length-drop, max, sym, ◌∙◌}
use Rattle.std.proofs.lemmas.List.{take_rest}
use Rattle.smap_pairs.specs.Pairs.{address_size, pair_numbers}
use Rattle.smap_pairs.proofs.PairsLaws.{behind_all, behind_colon, behind_other, behind_pair}
use Rattle.smap_pairs.proofs.pairs.next_pair.Goals as goal

pub returns-in-Some-pair_numbers-clause-pair : goal.returns-in-Some-pair_numbers-clause-pair
returns-in-Some-pair_numbers-clause-pair c =
    let line = c.args.line.now in
    let found = rw (take_rest c.args.line.now c.loop-bytes.at) at c.in-Some.ensures in
    let read = c.in-Some-pair_numbers.ensures in
    behind_pair line c.args.piece (c.loop-bytes.at + c.in-Some.bytes) _ _ _
    (behind_colon line c.args.piece c.loop-bytes.at c.in-Some.bytes c.loop-bytes.invariant.left (λ i below. found.0.before i (omega arith) below))
    (ap pair_numbers (sym (take_rest line (c.loop-bytes.at + c.in-Some.bytes))) ∙ sym read.numbers) (omega (arith, read.within))

pub loop-bytes-preserved : goal.loop-bytes-preserved
loop-bytes-preserved c =
    let line = c.args.line.now in
    let start = c.loop-bytes.at + c.in-Some.bytes in
    let found = rw (take_rest c.args.line.now c.loop-bytes.at) at c.in-Some.ensures in
    let text = take_rest line (c.loop-bytes.at + c.in-Some.bytes) in
    record {
      low = omega (arith, c.loop-bytes.invariant.low);
      within = omega (
        arith,
        found.0.high,
        length-drop c.loop-bytes.at line,
        c.address_size.ensures.within,
        ap length text,
        length-drop start line,
        c.max.ensures,
      );
      left = behind_other line c.args.piece start c.max.result
          (behind_colon line c.args.piece c.loop-bytes.at c.in-Some.bytes c.loop-bytes.invariant.left (λ i below. found.0.before i (omega arith) below))
          (ap pair_numbers (sym text) ∙ sym c.in_default-pair_numbers.ensures.numbers)
          (c.max.ensures ∙ ap (λ size. max size 1) (c.address_size.ensures.size ∙ ap address_size text));
    }

pub returns-clause-pair : goal.returns-clause-pair
returns-clause-pair c =
    let none = rw (take_rest c.args.line.now c.loop-bytes.at) at c.in_default.ensures in
    behind_all c.args.line.now c.args.piece c.loop-bytes.at c.loop-bytes.invariant.left c.loop-bytes.invariant.within (λ i below. none i (omega arith) below)
