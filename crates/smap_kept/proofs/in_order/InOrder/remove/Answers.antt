use Rattle.std.proofs.Common.{◌≡◌, None, ap, arith, length, cond, nat_eq, option_map, sym, subst, ◌∙◌}
use Rattle.std.specs.Str.{bytes_eq}
use Rattle.std.specs.Map.{remove_entry}
use Rattle.smap_locations.specs.ByText.{value_under}
use Rattle.smap_kept.specs.InOrder.{without}
use Rattle.smap_kept.specs.Private.Numbered.{IsOnce, in_order, numbers_of}
use Rattle.smap_kept.proofs.Moves.{none_left}
use Rattle.smap_kept.proofs.Numbers.{Found, all_stay, found, no_value}
use Rattle.smap_kept.proofs.TextKeys.{after_change}
use Rattle.smap_kept.proofs.in_order.InOrder.remove.Goals as goal

module _ (g : _) (c : goal.After-from_residual g) where
  has_none : value_under c.args.text.now c.args.self.now ≡ None
  has_none =
      ap (value_under c.args.text.now) (sym c.self.view_is)
      ∙ no_value c.args.text.now c.self.inside.entries.entries
      (sym (c.self.invariant.numbers c.args.text.now) ∙ sym c.remove.ensures.value ∙ c.in_err-number.was)

pub returns-in_err-number-clause-value : goal.returns-in_err-number-clause-value
returns-in_err-number-clause-value g c = c.from_residual.ensures ∙ sym (has_none g c)

pub returns-in_err-number-clause-rest : goal.returns-in_err-number-clause-rest
returns-in_err-number-clause-rest g c = c.self.view_is ∙ sym (all_stay c.args.text.now c.args.self.now (has_none g c))

pub returns-in_err-number-clause-gone : goal.returns-in_err-number-clause-gone
returns-in_err-number-clause-gone g c = ap (value_under c.args.text.now) c.self.view_is ∙ has_none g c

module _ (g : _) (c : goal.After-take g) where
  is_found : Found c.args.text.now c.in_ok-number.number c.self.inside.next c.self.inside.entries.entries
  is_found =
      found c.self.inside.next c.self.inside.entries.entries c.args.text.now c.in_ok-number.number c.self.invariant.once
      (sym (c.self.invariant.numbers c.args.text.now) ∙ sym c.remove.ensures.value ∙ c.in_ok-number.was)

pub invariant_of-self-2 : goal.invariant_of-self-2
invariant_of-self-2 g c =
    let text = c.args.text.now in
    let left = ap (λ it. it.entries) c.take.ensures.rest in
    record {
      numbers = λ other.
          after_change (λ k. k.items) text c.self.inside.numbers.entries c.remove.new.self.entries None c.remove.ensures.updates.1 c.remove.ensures.updates.3 other
          ∙ ap (λ o. cond (bytes_eq text other) None o) (c.self.invariant.numbers other)
          ∙ sym ((is_found g c).numbers other) ∙ ap (λ l. value_under other (numbers_of l)) (sym left);
      once = subst (IsOnce c.self.inside.next) (sym left) (is_found g c).once;
      few = omega (arith, ap length left, (is_found g c).fewer, c.self.invariant.few);
      wide = ap (λ it. it.cap) c.take.ensures.rest ∙ c.self.invariant.wide;
    }

pub returns-clause-value : goal.returns-clause-value
returns-clause-value g c =
    c.take.ensures.value ∙ ap (option_map (λ named. named.value)) (is_found g c).named_is ∙ sym (is_found g c).value_is
    ∙ ap (value_under c.args.text.now) c.self.view_is

pub returns-clause-rest : goal.returns-clause-rest
returns-clause-rest g c =
    ap (λ it. in_order it.entries) c.take.ensures.rest ∙ (is_found g c).rest ∙ ap (without c.args.text.now) c.self.view_is

pub returns-clause-gone : goal.returns-clause-gone
returns-clause-gone g c =
    let text = c.args.text.now in
    let all = c.self.inside.entries.entries in
    let number = c.in_ok-number.number in
    ap (λ it. value_under text (in_order it.entries)) c.take.ensures.rest
    ∙ no_value text (remove_entry (nat_eq number) all) (none_left c.self.inside.next all text number (is_found g c))
