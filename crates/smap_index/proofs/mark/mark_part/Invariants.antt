use Rattle.std.proofs.Common.{◌≡◌, ◌-◌, ◌||◌, true, false, None, length, take}
use Rattle.std.specs.Prelude.{IfSome}
use Rattle.std.specs.List.{last_or, list_any}
use Rattle.smap_mappings.specs.Segments.{segments_of}
use Rattle.smap_mappings.specs.Mappings.{mappings_of}
use Rattle.smap_mappings.specs.State.{IsAfter, IsMappingAt}
use Rattle.smap_index.specs.Parts.{placed}
use Rattle.smap_mappings.specs.Range.{is_number_past_limit, is_mapping_past_limit}
use Rattle.smap_index.proofs.CountingLaws.{IsCounting, IsMarked}
use Rattle.smap_index.proofs.mark.mark_part.Given as goal

-- the segments so far are those that were counted: the walk has seen them, and the table has the checkpoints of those
-- that are marked while nothing was past the limit and there was room
abbrev pub invariant-loop-mapping : goal.invariant-loop-mapping
invariant-loop-mapping l = record {
  after : IsAfter l.part.text l.meter.segments l.walk.state;
  last : IfSome (last_or None (take l.meter.segments (mappings_of l.part.text))) (IsMappingAt l.walk.state);
  counting : IsCounting l.interval l.walk.state.line l.walk.number (take l.meter.segments (mappings_of l.part.text));
  past_limit : l.walk.is_past_limit ≡ (is_number_past_limit l.part.line || is_number_past_limit l.part.column || list_any
      is_mapping_past_limit (take l.meter.segments (placed l.part)));
  room : l.walk.has_room ≡ true → l.fn.has_room ≡ true;
  marked : l.walk.is_past_limit ≡ false → l.walk.has_room ≡ true
      → IsMarked l.part l.number l.interval (take l.meter.segments (placed l.part)) l.fn.checkpoints l.checkpoints;
}

abbrev pub decreases-loop-mapping : goal.decreases-loop-mapping
decreases-loop-mapping l = length (segments_of l.part.text) - l.meter.segments
