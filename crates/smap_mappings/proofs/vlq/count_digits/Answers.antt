use Rattle.std.proofs.Common.{ap, arith, length}
use Rattle.smap_mappings.proofs.DigitLaws.{last_digit, more_digits, few_digits}
use Rattle.smap_mappings.proofs.vlq.count_digits.Goals as goal

pub loop-rest-init : goal.loop-rest-init
loop-rest-init c = record { left = 7; some = omega arith; below = omega arith; counted = omega arith }

pub overflow_add-count : goal.overflow_add-count
overflow_add-count c = record { fits = omega (arith, few_digits 7 c.args.unsigned, c.loop-rest.invariant.counted) }

pub loop-rest-preserved : goal.loop-rest-preserved
loop-rest-preserved c =
    let more = more_digits c.loop-rest.invariant.left c.loop-rest.rest c.loop-rest.invariant.below c.loop-rest-test.true in
    record { left = more.left; some = more.some; below = more.below; counted = omega (arith, c.loop-rest.invariant.counted, ap length more.digits) }

pub returns-clause-count : goal.returns-clause-count
returns-clause-count c =
    let last = last_digit c.loop-rest.invariant.left c.loop-rest.rest c.loop-rest.invariant.some c.loop-rest-test.false in
    omega (arith, c.loop-rest.invariant.counted, ap length last)

pub returns-clause-few : goal.returns-clause-few
returns-clause-few c =
    let last = last_digit c.loop-rest.invariant.left c.loop-rest.rest c.loop-rest.invariant.some c.loop-rest-test.false in
    omega (arith, few_digits 7 c.args.unsigned, c.loop-rest.invariant.counted, ap length last)
