use Rattle.std.proofs.Common.{ap, option_copied, option_map, sym, ◌∙◌}
use Rattle.smap_locations.specs.ByText.{value_under}
use Rattle.smap_kept.proofs.Numbers.{found, no_value}
use Rattle.smap_kept.proofs.in_order.InOrder.numbered_under.Goals as goal

pub returns-in_err-number : goal.returns-in_err-number
returns-in_err-number g c =
    ap option_copied c.from_residual.ensures ∙ sym (no_value c.args.text.now c.self.inside.entries.entries
    (sym (c.self.invariant.numbers c.args.text.now) ∙ sym c.get.ensures.value ∙ ap option_copied c.in_err-number.was))
    ∙ ap (value_under c.args.text.now) c.self.view_is

pub returns-in-Some : goal.returns-in-Some
returns-in-Some g c =
    let it = found c.self.inside.next c.self.inside.entries.entries c.args.text.now c.in_ok-number.number.now c.self.invariant.once
    (sym (c.self.invariant.numbers c.args.text.now) ∙ sym c.get.ensures.value ∙ ap option_copied c.in_ok-number.was) in
    ap (λ o. option_map (λ named. named.value) (option_copied o)) (sym c.in-Some.is)
    ∙ ap (option_map (λ named. named.value)) (c.peek.ensures ∙ it.named_is) ∙ sym it.value_is
    ∙ ap (value_under c.args.text.now) c.self.view_is

pub returns-in-None : goal.returns-in-None
returns-in-None g c =
    let it = found c.self.inside.next c.self.inside.entries.entries c.args.text.now c.in_ok-number.number.now c.self.invariant.once
    (sym (c.self.invariant.numbers c.args.text.now) ∙ sym c.get.ensures.value ∙ ap option_copied c.in_ok-number.was) in
    ap (λ o. option_map (λ named. named.value) (option_copied o)) (sym c.in-None.is)
    ∙ ap (option_map (λ named. named.value)) (c.peek.ensures ∙ it.named_is) ∙ sym it.value_is
    ∙ ap (value_under c.args.text.now) c.self.view_is
