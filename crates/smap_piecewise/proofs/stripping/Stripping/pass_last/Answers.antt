use Rattle.std.proofs.Common.{◌≡◌, ◌∷◌, ◌∙◌, ap, drop, refl, subst, sym}
use Rattle.smap_io.specs.Private.Front.{IsFront}
use Rattle.smap_piecewise.proofs.StripLaws.{passes_first, stays_there}
use Rattle.smap_piecewise.proofs.stripping.Stripping.pass_last.Goals as goal

pub loop-first-preserved : goal.loop-first-preserved
loop-first-preserved c =
    let held = c.loop-first.self.held in
    let first = c.in-Some.first.now in
    let rest = c.in-Some.field-0-1.now in
    let parts : held ≡ first ∷ rest = sym c.bytes.ensures ∙ c.in-Some.ensures.cases.0 in
    let front = subst (λ t. IsFront t c.loop-first.self.most c.front_of.result) c.bytes-in-Some.ensures c.front_of.ensures in
    passes_first c.args.self.now c.loop-first.self _ c.args.given.now c.loop-first.given _ c.loop-first.invariant first rest parts
    (stays_there held first rest c.loop-first.self.most c.front_of.result parts front c.in-Open.is) c.in_ok-push-in-Open.ensures.pushed
    (c.cut-in-Open.ensures ∙ ap (drop 1) parts) refl
