use Rattle.std.proofs.Common.{◌≡◌, length, reverse}
use Rattle.smap_pairs.specs.Before.{counts_of, is_in_eval}
use Rattle.smap_pairs.proofs.before.is_in_eval.Given as goal

abbrev pub invariant-loop-seen : goal.invariant-loop-seen
invariant-loop-seen l = is_in_eval (counts_of (reverse l.fn.before)) ≡ is_in_eval (counts_of (reverse l.rest))

abbrev pub decreases-loop-seen : goal.decreases-loop-seen
decreases-loop-seen l = length l.rest
