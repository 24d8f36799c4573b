use Rattle.std.proofs.Common.{arith}
use Rattle.std.proofs.lemmas.Fmt.{length-decimal-le}
use Rattle.itoa.proofs.Decimal.{length_four}
use Rattle.smap_printing.proofs.short_text.count_digits.Goals as goal

pub overflow_add-more : goal.overflow_add-more
overflow_add-more c =
    omega (arith, c.loop-left.invariant, length-decimal-le 20 c.args.number (omega arith) (omega arith) (omega arith))

pub loop-left-preserved : goal.loop-left-preserved
loop-left-preserved c =
    omega (arith, c.loop-left.invariant, length_four c.loop-left.left c.loop-left-test.true c.loop-left.auto.left-fits.fits)

pub overflow_add-result : goal.overflow_add-result
overflow_add-result c = omega (
  arith,
  c.loop-left.invariant,
  c.count_few_digits.ensures,
  length-decimal-le 20 c.args.number (omega arith) (omega arith) (omega arith),
)
