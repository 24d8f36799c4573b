use Rattle.std.proofs.Common.{◌≡◌, ℕ, ◌-◌, ◌≤◌, true, List, ◌∷◌, ◌++◌, ap, arith, drop, length, subst, sym, take, ◌∙◌}
use Rattle.smap_kept.specs.Bounded.{bytes_of, entry_bytes, fitting, is_within}
use Rattle.smap_kept.specs.InOrder.{without}
use Rattle.smap_kept.specs.declared.bounded.Counted.{Counted}
use Rattle.smap_kept.proofs.Fitting.{bytes_out, bytes_with, fewer, fits, within_kept}
use Rattle.smap_kept.proofs.bounded.Bounded.put.Goals as goal
use Rattle.smap_kept.proofs.bounded.Bounded.put.Goals.{After-count}

pub overflow_sub-others : goal.overflow_sub-others
overflow_sub-others g c =
    let out = bytes_out c.args.text.now c.self.inside.entries c.in-Ok.before (sym c.in-Ok.ensures.before) in
    omega (arith, out, c.bytes_before.ensures, c.self.invariant.sum)

pub drop_past-left-requires : goal.drop_past-left-requires
drop_past-left-requires g c =
    let out = bytes_out c.args.text.now c.self.inside.entries c.in-Ok.before (sym c.in-Ok.ensures.before) in
    omega (arith, out, c.bytes_before.ensures, c.self.invariant.sum, ap (λ l. bytes_of (drop 1 l)) c.in-Ok.ensures.put)

module _ (g : _) (c : After-count g) where
  abbrev one : List ℕ × Counted g.row.V.Denot
  one = (c.args.text.now, record { value = c.args.value; bytes = c.args.bytes })

  abbrev others : List (List ℕ × Counted g.row.V.Denot)
  others = without c.args.text.now c.self.inside.entries

  abbrev room : ℕ
  room = c.self.inside.most - entry_bytes one

  count_is : c.count_with-count.result ≡ entry_bytes one
  count_is = c.count_with-count.ensures

  room_is : c.saturating_sub.result ≡ room
  room_is = c.saturating_sub.ensures ∙ ap (λ n. c.self.inside.most - n) count_is

  entries_are : c.drop_past-left.new.entries ≡ one ∷ fitting room others
  entries_are =
      c.drop_past-left.ensures.entries
      ∙ ap (λ l. take 1 l ++ fitting c.saturating_sub.result (drop 1 l)) c.in-Ok.ensures.put
      ∙ ap (λ n. one ∷ fitting n others) room_is

  left_is : c.drop_past-left.result ≡ bytes_of (fitting room others)
  left_is = c.drop_past-left.ensures.left ∙ ap (λ l. bytes_of (drop 1 l)) entries_are

pub overflow_add-self : goal.overflow_add-self
overflow_add-self g c =
    let one : List ℕ × Counted g.row.V.Denot = (c.args.text.now, record { value = c.args.value; bytes = c.args.bytes }) in
    let others : List (List ℕ × Counted g.row.V.Denot) = without c.args.text.now c.self.inside.entries in
    let entries =
    c.drop_past-left.ensures.entries ∙ ap (λ l. take 1 l ++ fitting c.saturating_sub.result (drop 1 l)) c.in-Ok.ensures.put in
    let left = c.drop_past-left.ensures.left ∙ ap (λ l. bytes_of (drop 1 l)) entries in
    let within : bytes_of (fitting c.saturating_sub.result others) ≤ c.saturating_sub.result = fits c.saturating_sub.result others in
    omega (arith, within, left, c.saturating_sub.ensures, c.count_with-count.ensures)

pub overflow_sub-result : goal.overflow_sub-result
overflow_sub-result g c =
    omega (arith, c.count.ensures, ap length (entries_are g c), c.count-all.ensures, ap length c.in-Ok.ensures.put, fewer (room g c) (others g c))

pub invariant_of-self-2 : goal.invariant_of-self-2
invariant_of-self-2 g c = record {
  sum = omega (arith, left_is g c, count_is g c, bytes_with (one g c) (fitting (room g c) (others g c)), ap bytes_of (entries_are g c));
  within = subst (λ l. is_within c.self.inside.most l ≡ true) (sym (entries_are g c)) (within_kept c.self.inside.most (one g c) (others g c));
}
