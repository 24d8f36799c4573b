use Rattle.std.proofs.Common.{◌≡◌, length, reverse}
use Rattle.smap_pairs.specs.Seen.{first_byte}
use Rattle.smap_pairs.proofs.settled.first_byte.Given as goal

abbrev pub invariant-loop-seen : goal.invariant-loop-seen
invariant-loop-seen l = first_byte (reverse l.fn.before) ≡ first_byte (reverse l.rest)

abbrev pub decreases-loop-seen : goal.decreases-loop-seen
decreases-loop-seen l = length l.rest
