use Rattle.std.proofs.Common.{◌≡◌, ◌≤◌, ◌-◌, length, drop}
use Rattle.std.specs.List.{find}
use Rattle.smap_mappings.specs.Vlq.{is_too_long}
use Rattle.smap_mappings.specs.Segment.{cuts_of}
use Rattle.smap_mappings.proofs.measures.long_number_digits.Given as goal

-- no number so far is too long
abbrev pub invariant-loop-place : goal.invariant-loop-place
invariant-loop-place l = record {
  inside : l.place ≤ length l.segment;
  first : find is_too_long (cuts_of l.segment) ≡ find is_too_long (cuts_of (drop l.place l.segment));
}

abbrev pub decreases-loop-place : goal.decreases-loop-place
decreases-loop-place l = length l.segment - l.place
