use Rattle.std.proofs.Common.{◌-◌, length}
use Rattle.smap_mappings.specs.Private.Walk.{WalksUpTo}
use Rattle.smap_mappings.proofs.walk.walk_whole.Given as goal

-- no segment so far has a fault
abbrev pub invariant-loop-first : goal.invariant-loop-first
invariant-loop-first l = WalksUpTo l.bytes l.sources l.names l.walk

abbrev pub decreases-loop-first : goal.decreases-loop-first
decreases-loop-first l = length l.bytes - l.walk.at.place
