use Rattle.std.proofs.Common.{◌≤◌, ◌⊎◌, ◌≢◌, arith, get_or, inl, inr, length}
use Rattle.std.proofs.lemmas.Bool.{cases_lt}
use Rattle.smap_locations.proofs.CommonLaws.{front_is}
use Rattle.smap_locations.proofs.common.common_front.Goals as goal

pub returns-then-one-count : goal.returns-then-one-count
returns-then-one-count c =
    front_is c.args.one.now c.args.other.now c.loop-count.count c.loop-count.invariant (omega arith) (omega arith) (inr (inr c.if-one-count.true))

pub returns : goal.returns
returns c =
    let one = c.args.one.now in
    let other = c.args.other.now in
    let most = c.min-most.result in
    let end : (length one ≤ most) ⊎ ((length other ≤ most) ⊎ (get_or one most 0 ≢ get_or other most 0)) = elim (cases_lt (length one) (length other)) [
      | inl less ↦ inl (omega arith)
      | inr more ↦ inr (inl (omega arith))
    ] in
    front_is one other most (λ k below. c.loop-count.invariant k (omega arith)) (omega arith) (omega arith) end
