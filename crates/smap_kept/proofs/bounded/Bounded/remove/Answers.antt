use Rattle.std.proofs.Common.{◌≡◌, true, ap, arith, subst, sym}
use Rattle.smap_kept.specs.Bounded.{bytes_of, is_within}
use Rattle.smap_kept.specs.InOrder.{without}
use Rattle.smap_kept.proofs.Fitting.{bytes_out, count_out, within_fewer}
use Rattle.smap_kept.proofs.bounded.Bounded.remove.Goals as goal

pub overflow_sub-self : goal.overflow_sub-self
overflow_sub-self g c =
    let out = bytes_out c.args.text.now c.self.inside.entries c.remove-before.result (sym c.remove-before.ensures.value) in
    omega (arith, out, c.bytes_before.ensures, c.self.invariant.sum)

pub invariant_of-self : goal.invariant_of-self
invariant_of-self g c =
    let text = c.args.text.now in
    let entries = c.self.inside.entries in
    let most = c.self.inside.most in
    let rest = c.remove-before.ensures.rest in
    let found = sym c.remove-before.ensures.value in
    let out = bytes_out text entries c.remove-before.result found in
    record {
      sum = omega (arith, out, c.bytes_before.ensures, c.self.invariant.sum, ap bytes_of rest);
      within = subst (λ l. is_within most l ≡ true) (sym rest)
          (within_fewer most entries (without text entries) (omega (arith, out)) (count_out text entries c.remove-before.result found) c.self.invariant.within);
    }
