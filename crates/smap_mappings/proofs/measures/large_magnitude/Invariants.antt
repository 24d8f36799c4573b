use Rattle.std.proofs.Common.{◌≡◌, ◌≤◌, ◌-◌, length, drop}
use Rattle.std.specs.List.{find}
use Rattle.smap_mappings.specs.Measures.{is_short_too_large}
use Rattle.smap_mappings.specs.Segment.{cuts_of}
use Rattle.smap_mappings.proofs.measures.large_magnitude.Given as goal

-- no number so far is one that is sought
abbrev pub invariant-loop-place : goal.invariant-loop-place
invariant-loop-place l = record {
  inside : l.place ≤ length l.segment;
  first : find is_short_too_large (cuts_of l.segment) ≡ find is_short_too_large (cuts_of (drop l.place l.segment));
}

abbrev pub decreases-loop-place : goal.decreases-loop-place
decreases-loop-place l = length l.segment - l.place
