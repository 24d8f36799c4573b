use Rattle.std.proofs.Common.{◌-◌, length}
use Rattle.smap_mappings.specs.Segments.{segments_of}
use Rattle.smap_index.specs.Faults.{is_after_offset}
use Rattle.smap_explain.proofs.FirstLaws.{IsSought}
use Rattle.smap_explain.proofs.first_mapping.first_after_offset.Given as goal

-- none so far stands after the offset
abbrev pub invariant-loop-mapping : goal.invariant-loop-mapping
invariant-loop-mapping l = IsSought l.part (is_after_offset l.next) l.meter.segments l.state

abbrev pub decreases-loop-mapping : goal.decreases-loop-mapping
decreases-loop-mapping l = length (segments_of l.part.text) - l.meter.segments
