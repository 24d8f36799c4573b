use Rattle.std.proofs.Common.{arith, sym}
use Rattle.smap_pairs.specs.Laws.NumberReach.{numbers_some}
use Rattle.smap_pairs.proofs.pairs.pair_numbers.Goals as goal

pub returns-clause-within : goal.returns-clause-within
returns-clause-within c =
    let read = c.in_ok-line.ensures in
    (omega (arith, numbers_some c.args.text.now _ (sym read.numbers)), omega (arith, read.within))
