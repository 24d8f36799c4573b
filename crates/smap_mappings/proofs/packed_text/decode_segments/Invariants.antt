use Rattle.std.proofs.Common.{◌-◌, length}
use Rattle.smap_mappings.proofs.Checking.{DecodesUpTo}
use Rattle.smap_mappings.proofs.packed_text.decode_segments.Given as goal

abbrev pub invariant-loop-kind : goal.invariant-loop-kind
invariant-loop-kind l = DecodesUpTo l.bytes l.at l.list.items

abbrev pub decreases-loop-kind : goal.decreases-loop-kind
decreases-loop-kind l = length l.bytes - l.at.place
