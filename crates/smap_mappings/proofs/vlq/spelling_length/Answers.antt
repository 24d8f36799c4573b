use Rattle.std.proofs.Common.{◌≡◌, ap, sym, ◌∙◌, length, arith, rules}
use Rattle.smap_mappings.specs.Canonical.{shortest_spelling, digits_of, unsigned_number}
use Rattle.smap_mappings.proofs.DigitLaws.{last_digit}
use Rattle.smap_mappings.proofs.vlq.spelling_length.Goals as goal

pub returns-then-unsigned-lt32-clause-length : goal.returns-then-unsigned-lt32-clause-length
unfolding shortest_spelling
returns-then-unsigned-lt32-clause-length c =
    let is : c.unsigned_number-unsigned.result ≡ unsigned_number c.args.n = search rules in
    sym (ap (λ u. length (digits_of 7 u)) (sym is) ∙ ap length (last_digit 7 c.unsigned_number-unsigned.result (omega arith) c.if-unsigned-lt32.true))

pub returns-else-unsigned-lt32-clause-length : goal.returns-else-unsigned-lt32-clause-length
unfolding shortest_spelling
returns-else-unsigned-lt32-clause-length c =
    let is : c.unsigned_number-unsigned.result ≡ unsigned_number c.args.n = search rules in
    c.count_digits.ensures.count ∙ ap (λ u. length (digits_of 7 u)) is
