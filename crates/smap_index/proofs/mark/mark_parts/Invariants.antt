use Rattle.std.proofs.Common.{◌≡◌, ◌+◌, true, None, take, drop}
use Rattle.std.specs.List.{AllByRecursion, position_from}
use Rattle.std.specs.Option.{option_or}
use Rattle.smap_index.specs.Faults.{adjacent, is_overlapping, is_part_past_limit, overlap_fault, range_fault}
use Rattle.smap_index.specs.Marks.{marks}
use Rattle.smap_index.specs.Private.Walk.{IsTextInOrder}
use Rattle.smap_index.proofs.PartLaws.{IsFilled}
use Rattle.smap_index.proofs.mark.mark_parts.Given as goal

-- no part so far reaches past the next one's offset, the first past the limit among them is known, and the table has
-- their checkpoints while there is none and there was room
abbrev pub invariant-loop-i : goal.invariant-loop-i
invariant-loop-i l = record {
  overlap : overlap_fault l.parts ≡ position_from is_overlapping (l.i + 1) (adjacent (drop l.i l.parts));
  past_limit : option_or l.past_limit (position_from is_part_past_limit l.i (drop l.i l.parts)) ≡ range_fault l.parts;
  marked : l.past_limit ≡ None → l.has_room ≡ true → IsFilled l.parts (marks (take l.i l.parts) l.interval) l.fn.checkpoints l.checkpoints;
  ordered : AllByRecursion IsTextInOrder (take l.i l.parts);
}
