use Rattle.std.proofs.Common.{◌+◌, ◌*◌, Some, ap, get_or, sym, ◌∙◌}
use Rattle.smap_pairs.proofs.EscapesLaws.{four_none, four_some, number_here}
use Rattle.smap_pairs.proofs.escapes.number_of_four.Goals as goal

pub returns-in_ok-pair-in-len4-up-2-clause-number : goal.returns-in_ok-pair-in-len4-up-2-clause-number
returns-in_ok-pair-in-len4-up-2-clause-number c =
    let text = c.args.text.now in
    ap (λ n. Some (n * 256 + c.from-in-len4-up.result)) c.from.ensures
    ∙ ap (λ n. Some (c.in_ok-pair-in-len4-up.field-0 * 256 + n)) c.from-in-len4-up.ensures
    ∙ sym (four_some (get_or text 0 0) (get_or text 1 0) (get_or text 2 0) (get_or text 3 0) c.in_ok-pair-in-len4-up.field-0 c.in_ok-pair-in-len4-up-2.field-0
    (sym c.in_ok-pair-in-len4-up.ensures) (sym c.in_ok-pair-in-len4-up-2.ensures))
    ∙ sym (number_here text c.in-len4-up.len_at_least)

pub returns-in_err-pair-in-len4-up-2-clause-number : goal.returns-in_err-pair-in-len4-up-2-clause-number
returns-in_err-pair-in-len4-up-2-clause-number c =
    let text = c.args.text.now in
    c.from_residual-in_err-pair-in-len4-up-2.ensures
    ∙ sym (four_none (get_or text 0 0) (get_or text 1 0) (get_or text 2 0) (get_or text 3 0) c.in_ok-pair-in-len4-up.field-0
    (sym c.in_ok-pair-in-len4-up.ensures) (sym c.in_err-pair-in-len4-up-2.ensures))
    ∙ sym (number_here text c.in-len4-up.len_at_least)
