use Rattle.std.proofs.Common.{◌≡◌, length}
use Rattle.smap_pairs.specs.Halved.{has_doubled}
use Rattle.smap_pairs.proofs.halved.has_doubled.Given as goal

-- what is left has two as the text has
abbrev pub invariant-loop-byte : goal.invariant-loop-byte
invariant-loop-byte l = has_doubled l.text ≡ has_doubled l.rest

abbrev pub decreases-loop-byte : goal.decreases-loop-byte
decreases-loop-byte l = length l.rest
