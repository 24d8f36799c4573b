use Rattle.std.proofs.Common.{◌++◌, ◌∙◌, All, ap, append-nil, length, subst, sym}
use Rattle.smap_pairs.specs.Pairs.{AreInOrder, HasPairAt, IsPairOf}
use Rattle.smap_pairs.specs.Laws.Pairs.{are_in_order}
use Rattle.smap_pairs.specs.Laws.PairsWhole.{all_are_there, each_is_one}
use Rattle.smap_pairs.proofs.pairs.pairs_in_line.Goals as goal

pub returns-clause-pairs : goal.returns-clause-pairs
returns-clause-pairs c =
    let pairs = c.loop-pair.pairs.items in
    sym (c.loop-pair.invariant.left ∙ ap (λ more. pairs ++ more) c.in_default.ensures.pair ∙ append-nil pairs)

pub returns-clause-order : goal.returns-clause-order
returns-clause-order c = subst (AreInOrder 0 (length c.args.line.now)) (sym (returns-clause-pairs c)) (are_in_order c.args.line.now)

pub returns-clause-each : goal.returns-clause-each
returns-clause-each c = subst (All (IsPairOf c.args.line.now)) (sym (returns-clause-pairs c)) (each_is_one c.args.line.now)

pub returns-clause-all : goal.returns-clause-all
returns-clause-all c start some outside =
    subst (HasPairAt start) (sym (returns-clause-pairs c)) (all_are_there c.args.line.now start some outside)
