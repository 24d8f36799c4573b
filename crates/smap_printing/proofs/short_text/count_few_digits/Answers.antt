use Rattle.std.proofs.Common.{◌+◌, ◌/◌, sym, ap, ◌∙◌, arith}
use Rattle.itoa.proofs.Decimal.{length_one, length_pair, length_two}
use Rattle.smap_printing.proofs.short_text.count_few_digits.Goals as goal

pub returns-then-number-lt10 : goal.returns-then-number-lt10
returns-then-number-lt10 c = sym (length_one c.args.number c.if-number-lt10.true)

pub returns-else-number-lt10 : goal.returns-else-number-lt10
returns-else-number-lt10 c = sym (length_two c.args.number c.if-number-lt10.false c.if-number-lt100.true)

pub returns-then-number-lt1000 : goal.returns-then-number-lt1000
returns-then-number-lt1000 c =
    sym (length_pair c.args.number c.if-number-lt100.false (omega arith)
    ∙ ap (λ n. n + 2) (length_one (c.args.number / 100) (omega arith)))

pub returns-else-number-lt1000 : goal.returns-else-number-lt1000
returns-else-number-lt1000 c =
    sym (length_pair c.args.number c.if-number-lt100.false (omega arith)
    ∙ ap (λ n. n + 2) (length_two (c.args.number / 100) (omega arith) (omega arith)))
