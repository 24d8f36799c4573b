use Rattle.std.proofs.Common.{◌≡◌, Some, None, ap, arith, length, is_some, option_copied, sym, subst, ◌∙◌}
use Rattle.smap_locations.specs.ByText.{value_under}
use Rattle.smap_kept.specs.InOrder.{in_front, used}
use Rattle.smap_kept.specs.Private.Numbered.{IsOnce, in_order, numbers_of}
use Rattle.smap_kept.proofs.Numbers.{Found, found, no_value}
use Rattle.smap_kept.proofs.Moves.{moved_count, moved_numbers, moved_once, moved_order}
use Rattle.smap_kept.proofs.in_order.InOrder.promote.Goals as goal

module _ (g : _) (c : goal.After-promote g) where
  has_number : value_under c.args.text.now (numbers_of c.self.inside.entries.entries) ≡ Some c.in-Some.number.now
  has_number = sym (c.self.invariant.numbers c.args.text.now) ∙ sym c.get.ensures.value ∙ ap option_copied c.in-Some.is

  is_found : Found c.args.text.now c.in-Some.number.now c.self.inside.next c.self.inside.entries.entries
  is_found = found c.self.inside.next c.self.inside.entries.entries c.args.text.now c.in-Some.number.now c.self.invariant.once has_number

pub invariant_of-self : goal.invariant_of-self
invariant_of-self g c =
    let entries = c.self.inside.entries.entries in
    let next = c.self.inside.next in
    let text = c.args.text.now in
    let number = c.in-Some.number.now in
    let new = ap (λ it. it.entries) c.promote.ensures.entries in
    record {
      numbers = λ other. c.self.invariant.numbers other ∙ sym (moved_numbers next entries text number (is_found g c) (has_number g c) other)
          ∙ sym (ap (λ l. value_under other (numbers_of l)) new);
      once = subst (IsOnce next) (sym new) (moved_once next entries text number (is_found g c));
      few = omega (arith, ap length new, moved_count next entries text number (is_found g c), c.self.invariant.few);
      wide = ap (λ it. it.cap) c.promote.ensures.entries ∙ c.self.invariant.wide;
    }

pub returns-in-Some-clause-found : goal.returns-in-Some-clause-found
returns-in-Some-clause-found g c =
    let text = c.args.text.now in
    c.promote.ensures.value ∙ ap is_some (is_found g c).named_is ∙ sym (ap is_some (is_found g c).value_is)
    ∙ ap (λ l. is_some (value_under text l)) c.self.view_is

pub returns-in-Some-clause-order : goal.returns-in-Some-clause-order
returns-in-Some-clause-order g c =
    ap (λ it. in_order it.entries) c.promote.ensures.entries
    ∙ moved_order c.self.inside.next c.self.inside.entries.entries c.args.text.now c.in-Some.number.now (is_found g c)
    ∙ ap (used c.args.text.now) c.self.view_is

module _ (g : _) (c : goal.In-None g) where
  has_none : value_under c.args.text.now c.args.self.now ≡ None
  has_none =
      ap (value_under c.args.text.now) (sym c.self.view_is)
      ∙ no_value c.args.text.now c.self.inside.entries.entries
      (sym (c.self.invariant.numbers c.args.text.now) ∙ sym c.get.ensures.value ∙ ap option_copied c.in-None.is)

pub returns-in-None-clause-found : goal.returns-in-None-clause-found
returns-in-None-clause-found g c = sym (ap is_some (has_none g c))

pub returns-in-None-clause-order : goal.returns-in-None-clause-order
returns-in-None-clause-order g c = sym (ap (λ o. in_front c.args.text.now o c.args.self.now) (has_none g c))
