use Rattle.std.proofs.Common.{◌≡◌, ◌+◌, ◌-◌, ◌≤◌, ◌||◌, length, drop}
use Rattle.std.specs.List.{list_any}
use Rattle.smap_mappings.specs.Vlq.{is_too_long, is_too_large, is_negative_zero}
use Rattle.smap_mappings.specs.Segment.{cuts_of}
use Rattle.smap_mappings.specs.Private.Spelling.{IsClean}
use Rattle.smap_mappings.proofs.spelling.numbers_fault.Given as goal

-- no number so far is too long, and it is known whether one is too large, or a negative zero
abbrev pub invariant-loop-place : goal.invariant-loop-place
invariant-loop-place l = record {
  inside : l.place ≤ length l.segment;
  clean : IsClean (drop l.place l.segment);
  long : list_any is_too_long (cuts_of l.segment) ≡ list_any is_too_long (cuts_of (drop l.place l.segment));
  large : list_any is_too_large (cuts_of l.segment) ≡ (l.has_too_large || list_any is_too_large (cuts_of (drop l.place l.segment)));
  zero : list_any is_negative_zero (cuts_of l.segment) ≡ (l.has_negative_zero || list_any is_negative_zero (cuts_of (drop l.place l.segment)));
  count : length (cuts_of l.segment) ≡ l.count + length (cuts_of (drop l.place l.segment));
  few : l.count ≤ l.place;
}

abbrev pub decreases-loop-place : goal.decreases-loop-place
decreases-loop-place l = length l.segment - l.place
