use Rattle.std.proofs.Common.{◌≡◌, ℕ, length}
use Rattle.smap_pairs.specs.Pairs.{AreInOrder}
use Rattle.smap_pairs.proofs.PairAtLaws.{at}
use Rattle.smap_pairs.proofs.pair_at.pair_at.Given as goal

-- what is left is in its order, and has the pair if the line does
abbrev pub invariant-loop-pair : goal.invariant-loop-pair
invariant-loop-pair l = (at l.start l.pairs ≡ at l.start l.rest) × ((piece : ℕ) × AreInOrder piece l.size l.rest)

abbrev pub decreases-loop-pair : goal.decreases-loop-pair
decreases-loop-pair l = length l.rest
