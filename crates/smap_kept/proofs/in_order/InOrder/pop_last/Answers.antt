use Rattle.std.proofs.Common.{ℕ, arith, length, ◌++◌, ◌∷◌, [], None, ap, cond, sym, subst, ◌∙◌}
use Rattle.std.specs.Map.{lookup}
use Rattle.std.specs.Str.{bytes_eq}
use Rattle.smap_locations.specs.ByText.{value_under}
use Rattle.smap_kept.specs.Private.Numbered.{IsOnce, in_order, numbers_of}
use Rattle.smap_kept.specs.declared.in_order.Named.{Named}
use Rattle.smap_kept.proofs.Numbers.{found}
use Rattle.smap_kept.proofs.Moves.{last_number, last_order, last_rest}
use Rattle.smap_kept.proofs.TextKeys.{after_change, is_under}
use Rattle.smap_kept.proofs.in_order.InOrder.pop_last.Goals as goal

pub invariant_of-self-2 : goal.invariant_of-self-2
invariant_of-self-2 g c =
    let next = c.self.inside.next in
    let entries = c.self.inside.entries.entries in
    let e : ℕ × Named g.row.V.Denot = (c.in_ok-named.field-0-0, c.in_ok-named.named) in
    let once = c.self.invariant.once in
    let is = sym c.pop_lru.ensures.value ∙ c.in_ok-named.was in
    let text = c.in_ok-named.named.text.items in
    let left = ap (λ it. it.entries) c.pop_lru.ensures.entries in
    let rest = last_rest next e entries once is in
    let it = found next entries text e.0 once (last_number next e entries once is) in
    record {
      numbers = λ other.
          after_change (λ k. k.items) c.as_slice.result.now c.self.inside.numbers.entries c.remove.new.self.entries None c.remove.ensures.updates.1 c.remove.ensures.updates.3 other
          ∙ ap (λ t. cond (bytes_eq t other) None (lookup (is_under (λ k. k.items) other) c.self.inside.numbers.entries)) c.as_slice.ensures.value
          ∙ ap (λ o. cond (bytes_eq text other) None o) (c.self.invariant.numbers other)
          ∙ sym (it.numbers other) ∙ ap (λ l. value_under other (numbers_of l)) (rest ∙ sym left);
      once = subst (IsOnce next) (rest ∙ sym left) it.once;
      few = omega (arith, ap length (rest ∙ sym left), it.fewer, c.self.invariant.few);
      wide = ap (λ it. it.cap) c.pop_lru.ensures.entries ∙ c.self.invariant.wide;
    }

pub returns-clause-rest : goal.returns-clause-rest
returns-clause-rest g c =
    let e : ℕ × Named g.row.V.Denot = (c.in_ok-named.field-0-0, c.in_ok-named.named) in
    let is = sym c.pop_lru.ensures.value ∙ c.in_ok-named.was in
    sym c.self.view_is ∙ last_order c.self.inside.next e c.self.inside.entries.entries c.self.invariant.once is
    ∙ ap (λ it. in_order it.entries ++ (e.1.text.items, e.1.value) ∷ []) (sym c.pop_lru.ensures.entries)
