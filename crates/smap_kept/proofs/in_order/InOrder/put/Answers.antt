use Rattle.std.proofs.Common.{◌≡◌, ℕ, ◌∷◌, None, ap, arith, length, nat_eq, option_map, sym, subst, ◌∙◌}
use Rattle.std.specs.Map.{lookup, remove_entry}
use Rattle.smap_locations.specs.ByText.{value_under}
use Rattle.smap_kept.specs.InOrder.{without}
use Rattle.smap_kept.specs.Private.Numbered.{IsOnce, in_order, numbers_of}
use Rattle.smap_kept.specs.declared.in_order.Named.{Named}
use Rattle.smap_kept.proofs.Moves.{IsWithout, looked_past, none_out, numbered_with, one_out, order_with, out_again, passed_in_front, put_first, put_wide, seen_again}
use Rattle.smap_kept.proofs.Numbers.{Found, found, no_value}
use Rattle.smap_kept.proofs.TextKeys.{is_under}
use Rattle.smap_kept.proofs.in_order.InOrder.put.Goals as goal
use Rattle.smap_kept.proofs.in_order.InOrder.put.Goals.{After-take-in-Some-before, In-None-before, In-None, Joined-this-5}

-- ---- in the place of what was under the text

module _ (g : _) (c : After-take-in-Some-before g) where
  abbrev named : Named g.row.V.Denot
  named = record { text = c.in-Ok-Ok.text; value = c.args.value }

  abbrev before : ℕ
  before = c.in-Some-before.before

  is_found : Found c.in-Ok-Ok.key.items before c.self.inside.next c.self.inside.entries.entries
  is_found =
      found c.self.inside.next c.self.inside.entries.entries c.in-Ok-Ok.key.items before c.self.invariant.once
      (sym (c.self.invariant.numbers c.in-Ok-Ok.key.items) ∙ sym c.in-Ok-insert.ensures.old ∙ c.in-Some-before.is)

  is_left : IsWithout c.in-Ok-Ok.key.items c.self.inside.next c.self.inside.entries.entries (remove_entry (nat_eq before) c.self.inside.entries.entries)
  is_left = one_out c.in-Ok-Ok.key.items c.self.inside.next c.self.inside.entries.entries c.self.invariant.once c.self.invariant.few before is_found

  first : c.put.new.self.entries ≡ (c.self.inside.next, named) ∷ c.self.inside.entries.entries
  first = put_first c.self.inside c.self.invariant named c.in-Some.ensures.0 c.put.new.self c.in-Ok.ensures.entries

  entries_are : c.take-in-Some-before.new.entries.entries ≡ (c.self.inside.next, named) ∷ remove_entry (nat_eq before) c.self.inside.entries.entries
  entries_are =
      ap (λ it. it.entries) c.take-in-Some-before.ensures.rest ∙ ap (remove_entry (nat_eq before)) first
      ∙ passed_in_front c.self.inside.next named before c.self.inside.entries.entries is_found.below

  same_text : c.in-Ok-Ok.text.items ≡ c.in-Ok-Ok.key.items
  same_text = c.in-Ok-Ok.ensures'.items ∙ sym c.in-Ok-Ok.ensures.items

pub invariant_of-self-in-Some-before : goal.invariant_of-self-in-Some-before
invariant_of-self-in-Some-before g c =
    numbered_with c.self.inside c.self.invariant (named g c) c.in-Some.ensures.0 c.put.new.self c.in-Ok.ensures.entries
    c.insert.new.self c.take-in-Some-before.new.entries c.in-Ok-Ok.key.items _ (is_left g c) (same_text g c) (entries_are g c)
    (ap (λ it. it.cap) c.take-in-Some-before.ensures.rest
    ∙ put_wide c.self.inside c.self.invariant (named g c) c.in-Some.ensures.0 c.put.new.self c.in-Ok.ensures.entries)
    c.in-Ok-insert.ensures.updates.1 c.in-Ok-insert.ensures.updates.3 c.in-Some.next c.in-Some.ensures.1

pub returns-in-Some-before-clause-put : goal.returns-in-Some-before-clause-put
returns-in-Some-before-clause-put g c =
    ap in_order (entries_are g c)
    ∙ order_with c.in-Ok-Ok.key.items c.self.inside.next c.self.inside.entries.entries (named g c) (same_text g c) _ (is_left g c)
    ∙ ap (λ t. (t, c.args.value) ∷ without t (in_order c.self.inside.entries.entries)) c.in-Ok-Ok.ensures.items
    ∙ ap (λ l. (c.args.text.now, c.args.value) ∷ without c.args.text.now l) c.self.view_is

pub returns-in-Some-before-clause-before : goal.returns-in-Some-before-clause-before
returns-in-Some-before-clause-before g c =
    c.take-in-Some-before.ensures.value
    ∙ ap (λ l. option_map (λ it. it.value) (lookup (nat_eq (before g c)) l)) (first g c)
    ∙ ap (option_map (λ it. it.value)) (looked_past c.self.inside.next (named g c) (before g c) c.self.inside.entries.entries (is_found g c).below ∙ (is_found g c).named_is)
    ∙ sym (is_found g c).value_is
    ∙ ap (λ t. value_under t (in_order c.self.inside.entries.entries)) c.in-Ok-Ok.ensures.items
    ∙ ap (value_under c.args.text.now) c.self.view_is

-- ---- where nothing was under it

module _ (g : _) (c : In-None-before g) where
  abbrev named_new : Named g.row.V.Denot
  named_new = record { text = c.in-Ok-Ok.text; value = c.args.value }

  has_none : value_under c.in-Ok-Ok.key.items (numbers_of c.self.inside.entries.entries) ≡ None
  has_none = sym (c.self.invariant.numbers c.in-Ok-Ok.key.items) ∙ sym c.in-Ok-insert.ensures.old ∙ c.in-None-before.is

  all_left : IsWithout c.in-Ok-Ok.key.items c.self.inside.next c.self.inside.entries.entries c.self.inside.entries.entries
  all_left = none_out c.in-Ok-Ok.key.items c.self.inside.next c.self.inside.entries.entries c.self.invariant.once c.self.invariant.few has_none

  first_new : c.put.new.self.entries ≡ (c.self.inside.next, named_new) ∷ c.self.inside.entries.entries
  first_new = put_first c.self.inside c.self.invariant named_new c.in-Some.ensures.0 c.put.new.self c.in-Ok.ensures.entries

pub invariant_of-self-in-None-before : goal.invariant_of-self-in-None-before
invariant_of-self-in-None-before g c =
    numbered_with c.self.inside c.self.invariant (named_new g c) c.in-Some.ensures.0 c.put.new.self c.in-Ok.ensures.entries
    c.insert.new.self c.put.new.self c.in-Ok-Ok.key.items _ (all_left g c) (c.in-Ok-Ok.ensures'.items ∙ sym c.in-Ok-Ok.ensures.items) (first_new g c)
    (put_wide c.self.inside c.self.invariant (named_new g c) c.in-Some.ensures.0 c.put.new.self c.in-Ok.ensures.entries)
    c.in-Ok-insert.ensures.updates.1 c.in-Ok-insert.ensures.updates.3 c.in-Some.next c.in-Some.ensures.1

pub returns-in-None-before-clause-put : goal.returns-in-None-before-clause-put
returns-in-None-before-clause-put g c =
    ap in_order (first_new g c)
    ∙ order_with c.in-Ok-Ok.key.items c.self.inside.next c.self.inside.entries.entries (named_new g c)
    (c.in-Ok-Ok.ensures'.items ∙ sym c.in-Ok-Ok.ensures.items) _ (all_left g c)
    ∙ ap (λ t. (t, c.args.value) ∷ without t (in_order c.self.inside.entries.entries)) c.in-Ok-Ok.ensures.items
    ∙ ap (λ l. (c.args.text.now, c.args.value) ∷ without c.args.text.now l) c.self.view_is

pub returns-in-None-before-clause-before : goal.returns-in-None-before-clause-before
returns-in-None-before-clause-before g c =
    sym (no_value c.in-Ok-Ok.key.items c.self.inside.entries.entries (has_none g c))
    ∙ ap (λ t. value_under t (in_order c.self.inside.entries.entries)) c.in-Ok-Ok.ensures.items
    ∙ ap (value_under c.args.text.now) c.self.view_is

-- ---- where there was no memory for its number

module _ (g : _) (c : Joined-this-5 g) where
  abbrev named_back : Named g.row.V.Denot
  named_back = record { text = c.in-Ok-Ok.text; value = c.args.value }

  first_back : c.put.new.self.entries ≡ (c.self.inside.next, named_back) ∷ c.self.inside.entries.entries
  first_back = put_first c.self.inside c.self.invariant named_back c.in-Some.ensures.0 c.put.new.self c.in-Ok.ensures.entries

  as_before : c.take.new.entries.entries ≡ c.self.inside.entries.entries
  as_before =
      ap (λ it. it.entries) c.take.ensures.rest ∙ ap (remove_entry (nat_eq c.self.inside.next)) first_back
      ∙ out_again c.self.inside.next named_back c.self.inside.entries.entries

pub invariant_of-self-in-Some-take : goal.invariant_of-self-in-Some-take
invariant_of-self-in-Some-take g c = record {
  numbers = λ other. ap (lookup (is_under (λ k. k.items) other)) c.in-Err-insert.ensures.err ∙ c.self.invariant.numbers other
      ∙ sym (ap (λ l. value_under other (numbers_of l)) (as_before g c));
  once = subst (IsOnce c.self.inside.next) (sym (as_before g c)) c.self.invariant.once;
  few = omega (arith, ap length (as_before g c), c.self.invariant.few);
  wide = ap (λ it. it.cap) c.take.ensures.rest
      ∙ put_wide c.self.inside c.self.invariant (named_back g c) c.in-Some.ensures.0 c.put.new.self c.in-Ok.ensures.entries;
}

pub returns-in-Some-take-clause-kept : goal.returns-in-Some-take-clause-kept
returns-in-Some-take-clause-kept g c = ap in_order (as_before g c) ∙ c.self.view_is

pub returns-in-Some-take-clause-back : goal.returns-in-Some-take-clause-back
returns-in-Some-take-clause-back g c =
    let first = first_back g c in
    let is = c.take.ensures.value ∙ ap (λ l. option_map (λ it. it.value) (lookup (nat_eq c.self.inside.next) l)) first
    ∙ ap (option_map (λ it. it.value)) (seen_again c.self.inside.next (named_back g c) c.self.inside.entries.entries) in
    let some = c.in-Some-take.is in
    cc

pub unreachable-requires : goal.unreachable-requires
unreachable-requires g c =
    let named : Named g.row.V.Denot = record { text = c.in-Ok-Ok.text; value = c.args.value } in
    let first = put_first c.self.inside c.self.invariant named c.in-Some.ensures.0 c.put.new.self c.in-Ok.ensures.entries in
    let is = c.take.ensures.value ∙ ap (λ l. option_map (λ it. it.value) (lookup (nat_eq c.self.inside.next) l)) first
    ∙ ap (option_map (λ it. it.value)) (seen_again c.self.inside.next named c.self.inside.entries.entries) in
    let none = c.in-None.is in
    cc
