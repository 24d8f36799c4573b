use Rattle.std.proofs.Common.{◌+◌, ◌*◌, rules, sym, ap, ◌∙◌, FitsSigned, w32}
use Rattle.std.proofs.lemmas.Int.{to_z-of_z}
use Rattle.smap_mappings.specs.Private.Reading.{checked_number, number_with_end}
use Rattle.smap_mappings.proofs.Numbers.{at_two_digits}
use Rattle.smap_mappings.proofs.vlq.read_two_digits.Goals as goal

pub returns-in-Ok-clause-exact : goal.returns-in-Ok-clause-exact
returns-in-Ok-clause-exact c =
    let fits : FitsSigned w32 c.in-Ok.number = search rules in
    let two = at_two_digits c.args.bytes.now c.args.place c.in_ok-low.low c.in_ok-high.high c.requires (sym c.in_ok-low.ensures)
    c.if-low-lt32.false (sym c.in_ok-high.ensures) c.if-high-ge32.false in
    rw (to_z-of_z w32 c.in-Ok.number fits)
    (two ∙ ap (number_with_end (c.args.place + 2)) ((λ i. checked_number (sym c.from.ensures i + sym c.from-2.ensures i * 32)) ∙ sym c.in-Ok.ensures))
