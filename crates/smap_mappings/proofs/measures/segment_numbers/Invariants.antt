use Rattle.std.proofs.Common.{◌≡◌, ◌≤◌, ◌-◌, ◌++◌, length, drop}
use Rattle.std.specs.Option.{option_map}
use Rattle.smap_mappings.specs.Segment.{fields_of}
use Rattle.smap_mappings.proofs.measures.segment_numbers.Given as goal

-- the numbers so far, and what is left
abbrev pub invariant-loop-place : goal.invariant-loop-place
invariant-loop-place l = record {
  inside : l.place ≤ length l.segment;
  fields : fields_of l.segment ≡ option_map (λ rest. l.numbers.items ++ rest) (fields_of (drop l.place l.segment));
}

abbrev pub decreases-loop-place : goal.decreases-loop-place
decreases-loop-place l = length l.segment - l.place
