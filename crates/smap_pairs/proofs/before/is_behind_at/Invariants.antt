use Rattle.std.proofs.Common.{◌≡◌, false, length, reverse}
use Rattle.smap_pairs.specs.Before.{counts_of, is_behind_at}
use Rattle.smap_pairs.proofs.before.is_behind_at.Given as goal

abbrev pub invariant-loop-seen : goal.invariant-loop-seen
invariant-loop-seen l = is_behind_at false (counts_of (reverse l.fn.before)) ≡ is_behind_at l.has_blank (counts_of (reverse l.rest))

abbrev pub decreases-loop-seen : goal.decreases-loop-seen
decreases-loop-seen l = length l.rest
