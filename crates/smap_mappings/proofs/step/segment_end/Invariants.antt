use Rattle.std.proofs.Common.{◌≡◌, ◌+◌, ◌-◌, ◌≤◌, length}
use Rattle.smap_mappings.specs.Private.Reading.{segment_at}
use Rattle.smap_mappings.proofs.step.segment_end.Given as goal

-- the segment goes on up to here at least
abbrev pub invariant-loop-end : goal.invariant-loop-end
invariant-loop-end l = record {
  inside : l.end ≤ length l.bytes;
  same_end : l.place + length (segment_at l.bytes l.place) ≡ l.end + length (segment_at l.bytes l.end);
}

abbrev pub decreases-loop-end : goal.decreases-loop-end
decreases-loop-end l = length l.bytes - l.end
