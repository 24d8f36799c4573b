use Rattle.std.proofs.Common.{◌≡◌, ◌<◌, ◌≤◌, inl, inr, ℕ, ◌∷◌, ◌++◌, List, ap, arith, subst, sym, ◌∙◌}
use Rattle.std.proofs.lemmas.Bool.{cases_lt}
use Rattle.smap_pairs.specs.Pairs.{AreInOrder}
use Rattle.smap_pairs.specs.declared.pairs.Pair.{Pair}
use Rattle.smap_pairs.proofs.PairAtLaws.{at, found_before, found_behind, found_here, inside, order_before, order_later, parted}
use Rattle.smap_pairs.proofs.pair_at.pair_at.Goals as goal

pub returns-then-pair-start-clause-pair : goal.returns-then-pair-start-clause-pair
returns-then-pair-start-clause-pair c =
    let before : List Pair = c.split_at.result.0.now in
    let pair : Pair = c.in-Some.pair.now in
    let later : List Pair = c.in-Some.later.now in
    let is = parted c.loop-pair.rest.now before c.split_at.result.1.now later pair _ c.split_at.ensures.front c.split_at.ensures.back c.in-Some.ensures.cases.0 in
    let order = subst (λ l. AreInOrder c.loop-pair.invariant.1.0 c.args.size l) is c.loop-pair.invariant.1.1 in
    sym (c.loop-pair.invariant.0 ∙ (ap (at c.args.start) is ∙ (ap (λ s. at s (before ++ pair ∷ later)) (sym c.if-pair-start.true)
    ∙ found_here c.args.size pair later c.loop-pair.invariant.1.0 before order)))

pub returns-then-pair-start-clause-within : goal.returns-then-pair-start-clause-within
returns-then-pair-start-clause-within c =
    let before : List Pair = c.split_at.result.0.now in
    let pair : Pair = c.in-Some.pair.now in
    let later : List Pair = c.in-Some.later.now in
    let is = parted c.loop-pair.rest.now before c.split_at.result.1.now later pair _ c.split_at.ensures.front c.split_at.ensures.back c.in-Some.ensures.cases.0 in
    let order = subst (λ l. AreInOrder c.loop-pair.invariant.1.0 c.args.size l) is c.loop-pair.invariant.1.1 in
    inside c.args.size pair later c.loop-pair.invariant.1.0 before order

pub loop-pair-preserved-then-start-pair : goal.loop-pair-preserved-then-start-pair
loop-pair-preserved-then-start-pair c =
    let before : List Pair = c.split_at.result.0.now in
    let pair : Pair = c.in-Some.pair.now in
    let later : List Pair = c.in-Some.later.now in
    let is = parted c.loop-pair.rest.now before c.split_at.result.1.now later pair _ c.split_at.ensures.front c.split_at.ensures.back c.in-Some.ensures.cases.0 in
    let order = subst (λ l. AreInOrder c.loop-pair.invariant.1.0 c.args.size l) is c.loop-pair.invariant.1.1 in (
      c.loop-pair.invariant.0 ∙ (ap (at c.args.start) is ∙ found_before c.args.size pair later c.args.start c.loop-pair.invariant.1.0 before order c.if-start-pair.true),
      (c.loop-pair.invariant.1.0, order_before c.args.size pair later c.loop-pair.invariant.1.0 before order),
    )

pub loop-pair-preserved : goal.loop-pair-preserved
loop-pair-preserved c =
    let before : List Pair = c.split_at.result.0.now in
    let pair : Pair = c.in-Some.pair.now in
    let later : List Pair = c.in-Some.later.now in
    let is = parted c.loop-pair.rest.now before c.split_at.result.1.now later pair _ c.split_at.ensures.front c.split_at.ensures.back c.in-Some.ensures.cases.0 in
    let order = subst (λ l. AreInOrder c.loop-pair.invariant.1.0 c.args.size l) is c.loop-pair.invariant.1.1 in
    let less : pair.start < c.args.start = less_of pair.start c.args.start c.if-start-pair.false c.if-pair-start.false in (
      c.loop-pair.invariant.0 ∙ (ap (at c.args.start) is ∙ found_behind c.args.size pair later c.args.start c.loop-pair.invariant.1.0 before order less),
      (pair.end, order_later c.args.size pair later c.loop-pair.invariant.1.0 before order),
    )
  where
    less_of : (a b : ℕ) → a ≤ b → (a ≡ b → ⊥) → a < b
    less_of a b most other = elim (cases_lt a b) [
      | inl less ↦ less
      | inr more ↦ absurd (other (omega (arith, most, more)))
    ]
