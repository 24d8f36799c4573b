use Rattle.std.proofs.Common.{◌≡◌, ◌+◌}
use Rattle.smap_mappings.specs.Private.Reading.{front_at}
use Rattle.smap_mappings.proofs.vlq.fault_past_most_digits.Given as goal

-- the bytes so far are digits that continue
abbrev pub invariant-loop-end : goal.invariant-loop-end
invariant-loop-end l = l.place + front_at l.bytes l.place ≡ l.end + front_at l.bytes l.end
