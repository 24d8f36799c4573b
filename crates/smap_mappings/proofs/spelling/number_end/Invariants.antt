use Rattle.std.proofs.Common.{◌≡◌, ◌+◌, ◌-◌, length}
use Rattle.smap_mappings.specs.Private.Reading.{front_at}
use Rattle.smap_mappings.proofs.spelling.number_end.Given as goal

-- the bytes so far are digits that continue
abbrev pub invariant-loop-end : goal.invariant-loop-end
invariant-loop-end l = l.place + front_at l.segment l.place ≡ l.end + front_at l.segment l.end

abbrev pub decreases-loop-end : goal.decreases-loop-end
decreases-loop-end l = length l.segment - l.end
