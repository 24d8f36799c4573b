use Rattle.std.proofs.Common.{◌≡◌, ◌-◌, ◌<◌, true, length, take}
use Rattle.smap_mappings.specs.Mappings.{mappings_of}
use Rattle.smap_mappings.specs.Order.{IsInOrder}
use Rattle.smap_mappings.specs.Segments.{segments_of}
use Rattle.smap_index.specs.Parts.{placed, whole_text}
use Rattle.smap_index.proofs.CountingLaws.{IsCounting, IsMarked}
use Rattle.smap_index.proofs.marked.mark_text.Given as goal

-- the segments so far are those that were checked: where the text is in order, the walk has counted them on their lines,
-- and the table has the checkpoints of those that are marked while there was room
abbrev pub invariant-loop-kind : goal.invariant-loop-kind
invariant-loop-kind l = record {
  same : l.check.text ≡ l.fn.check.text;
  sources : l.check.sources ≡ l.fn.check.sources;
  names : l.check.names ≡ l.fn.check.names;
  few : l.number < l.interval;
  counting : IsInOrder (mappings_of l.check.text) → IsCounting l.interval l.line l.number (take l.check.segments (mappings_of l.check.text));
  marked : IsInOrder (mappings_of l.check.text) → l.has_room ≡ true
      → IsMarked (whole_text l.check.text) 0 l.interval (take l.check.segments (placed (whole_text l.check.text))) l.fn.table l.table;
}

abbrev pub decreases-loop-kind : goal.decreases-loop-kind
decreases-loop-kind l = length (segments_of l.check.text) - l.check.segments
