use Rattle.std.proofs.Common.{◌-◌, length}
use Rattle.smap_mappings.specs.Range.{is_mapping_past_limit}
use Rattle.smap_mappings.specs.Segments.{segments_of}
use Rattle.smap_explain.proofs.FirstLaws.{IsSought}
use Rattle.smap_explain.proofs.first_mapping.first_past_limit.Given as goal

-- none so far has a number past the limit
abbrev pub invariant-loop-mapping : goal.invariant-loop-mapping
invariant-loop-mapping l = IsSought l.part is_mapping_past_limit l.meter.segments l.state

abbrev pub decreases-loop-mapping : goal.decreases-loop-mapping
decreases-loop-mapping l = length (segments_of l.part.text) - l.meter.segments
