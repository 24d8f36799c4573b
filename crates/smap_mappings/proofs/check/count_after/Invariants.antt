use Rattle.std.proofs.Common.{◌-◌, length}
use Rattle.smap_mappings.specs.Private.Walk.{ChecksUpTo}
use Rattle.smap_mappings.proofs.check.count_after.Given as goal

-- no segment so far is faulty
abbrev pub invariant-loop-at : goal.invariant-loop-at
invariant-loop-at l = ChecksUpTo l.bytes l.sources l.names l.at l.segments l.used_lines

abbrev pub decreases-loop-at : goal.decreases-loop-at
decreases-loop-at l = length l.bytes - l.at.place
