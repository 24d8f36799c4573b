use Rattle.std.proofs.Common.{◌≡◌, length}
use Rattle.smap_index.specs.Joined.{left_of, IsWalkThrough}
use Rattle.smap_index.proofs.joined.JoinedMappingsIterator.next.Given as goal

-- the parts so far had no mapping that is left
abbrev pub invariant-loop-part : goal.invariant-loop-part
invariant-loop-part l = record {
  same : left_of l.self-inside.parts.now l.self-inside.meter.segments ≡ l.fn.self;
  walk : IsWalkThrough l.self-inside.parts.now l.self-inside.meter.segments l.self-inside.cursor;
}

abbrev pub decreases-loop-part : goal.decreases-loop-part
decreases-loop-part l = length l.self-inside.parts.now
