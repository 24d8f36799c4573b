use Rattle.std.proofs.Common.{sym}
use Rattle.itoa.proofs.Decimal.{length_one, length_two}
use Rattle.smap_printing.proofs.ShortTextLaws.{length_four, length_three}
use Rattle.smap_printing.proofs.short_text.ShortText.add_number.Goals as goal

pub add_digits-requires-clause-digits : goal.add_digits-requires-clause-digits
add_digits-requires-clause-digits c = sym (length_one c.args.number c.if-number-lt10.true)

pub add_digits-requires-then-number-lt100-clause-digits : goal.add_digits-requires-then-number-lt100-clause-digits
add_digits-requires-then-number-lt100-clause-digits c = sym (length_two c.args.number c.if-number-lt10.false c.if-number-lt100.true)

pub add_digits-requires-then-number-lt1000-clause-digits : goal.add_digits-requires-then-number-lt1000-clause-digits
add_digits-requires-then-number-lt1000-clause-digits c = sym (length_three c.args.number c.if-number-lt100.false c.if-number-lt1000.true)

pub add_digits-requires-then-number-lt10000-clause-digits : goal.add_digits-requires-then-number-lt10000-clause-digits
add_digits-requires-then-number-lt10000-clause-digits c =
    sym (length_four c.args.number c.if-number-lt1000.false c.if-number-lt10000.true)
