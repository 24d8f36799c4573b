use Rattle.std.proofs.Common.{◌≡◌, true, false, cond, Some, None, ap, option_map, sym, ◌∙◌}
use Rattle.std.specs.List.{slice_get}
use Rattle.std.specs.Str.{bytes_eq}
use Rattle.smap_kept.specs.InOrder.{first_under}
use Rattle.smap_kept.proofs.FirstLaws.{first_of}
use Rattle.smap_kept.proofs.in_order.InOrder.first_under.Goals as goal

pub returns-then-eq : goal.returns-then-eq
returns-then-eq g c =
    let text = c.args.text.now in
    let named = c.in_ok-named.named.now in
    let entries = c.self.inside.entries.entries in
    let is : slice_get entries 0 ≡ Some (c.in_ok-named.field-0-0.now, named) =
    sym c.peek_mru.ensures ∙ ap (option_map (λ e. (e.0.now, e.1.now))) c.in_ok-named.was in
    let same : bytes_eq text named.text.items ≡ true = ap (bytes_eq text) (sym c.as_slice.ensures.value) ∙ sym c.eq.ensures ∙ c.if-eq.true in
    sym (first_of text entries c.in_ok-named.field-0-0.now named is ∙ ap (λ b. cond b (Some named.value) None) same) ∙ ap (first_under text) c.self.view_is

pub returns-else-eq : goal.returns-else-eq
returns-else-eq g c =
    let text = c.args.text.now in
    let named = c.in_ok-named.named.now in
    let entries = c.self.inside.entries.entries in
    let is : slice_get entries 0 ≡ Some (c.in_ok-named.field-0-0.now, named) =
    sym c.peek_mru.ensures ∙ ap (option_map (λ e. (e.0.now, e.1.now))) c.in_ok-named.was in
    let apart : bytes_eq text named.text.items ≡ false = ap (bytes_eq text) (sym c.as_slice.ensures.value) ∙ sym c.eq.ensures ∙ c.if-eq.false in
    sym (first_of text entries c.in_ok-named.field-0-0.now named is ∙ ap (λ b. cond b (Some named.value) None) apart) ∙ ap (first_under text) c.self.view_is
