use Rattle.std.proofs.Common.{arith}
use Rattle.smap_text_answers.proofs.NearestLaws.{other_ends, shared_next, shared_no_more}
use Rattle.smap_text_answers.proofs.nearest.common_ending.Goals as goal

pub loop-count-preserved : goal.loop-count-preserved
loop-count-preserved c =
    let next = shared_next c.args.one.now c.args.other.now c.loop-count.count c.loop-count-test.true c.if-count-other.true c.if-one-count.false in
    record { within_one = omega arith; within_other = omega arith; shared = omega (arith, next, c.loop-count.invariant.shared) }

pub returns-else-count-other : goal.returns-else-count-other
returns-else-count-other c =
    let none = other_ends c.args.one.now c.args.other.now c.loop-count.count c.if-count-other.false in
    omega (arith, none, c.loop-count.invariant.shared)

pub returns-then-one-count : goal.returns-then-one-count
returns-then-one-count c =
    let none = shared_no_more c.args.one.now c.args.other.now c.loop-count.count c.loop-count-test.true c.if-count-other.true c.if-one-count.true in
    omega (arith, none, c.loop-count.invariant.shared)
