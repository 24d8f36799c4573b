use Rattle.std.proofs.Common.{◌≡◌, true, ap, arith, subst, sym, ◌∙◌}
use Rattle.smap_kept.specs.Bounded.{bytes_of, is_within}
use Rattle.smap_kept.specs.InOrder.{used}
use Rattle.smap_kept.proofs.Fitting.{used_bytes, within_fewer}
use Rattle.smap_kept.proofs.bounded.Bounded.touch.Goals as goal

pub invariant_of-self : goal.invariant_of-self
invariant_of-self g c =
    let text = c.args.text.now in
    let entries = c.self.inside.entries in
    let most = c.self.inside.most in
    let order = c.touch.ensures.order in
    let same = used_bytes text entries in
    record {
      sum = c.self.invariant.sum ∙ sym same.0 ∙ ap bytes_of (sym order);
      within = subst (λ l. is_within most l ≡ true) (sym order)
          (within_fewer most entries (used text entries) (omega (arith, same.0)) (omega (arith, same.1)) c.self.invariant.within);
    }
