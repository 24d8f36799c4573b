use Rattle.std.proofs.Common.{◌≡◌, length, reverse}
use Rattle.smap_pairs.specs.Signs.{signs}
use Rattle.smap_pairs.proofs.signs.last_sign.Given as goal

abbrev pub invariant-loop-seen : goal.invariant-loop-seen
invariant-loop-seen l = signs (reverse l.fn.line) ≡ signs (reverse l.rest)

abbrev pub decreases-loop-seen : goal.decreases-loop-seen
decreases-loop-seen l = length l.rest
