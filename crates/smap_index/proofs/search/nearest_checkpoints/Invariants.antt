use Rattle.std.proofs.Common.{ℕ, ◌-◌, ◌≡◌, ◌+◌, ◌^◌, ◌<◌, ◌≤◌}
use Rattle.std.specs.Option.{option_copied}
use Rattle.smap_index.specs.Private.Search.{mappings_at, front_up_to, last_in, next_in}
use Rattle.smap_index.proofs.search.nearest_checkpoints.Given as goal

-- the front ends between `low` and `high`, `last` is the last below `low` and `next` the one at `high`, and with each
-- comparison so far the number of checkpoints between them came below a power of two that is one lower
abbrev pub invariant-loop-low : goal.invariant-loop-low
invariant-loop-low l = record {
  low : l.low ≤ front_up_to l.bound (mappings_at l.checkpoints);
  high : front_up_to l.bound (mappings_at l.checkpoints) ≤ l.high;
  from : l.fn.stretch.low ≤ l.low;
  inside : l.high ≤ l.fn.stretch.high;
  last : option_copied l.last ≡ last_in l.fn.stretch.low l.low l.checkpoints;
  next : option_copied l.next ≡ next_in l.high l.fn.stretch.high l.checkpoints;
  onward : l.fn.meter.comparisons ≤ l.meter.comparisons;
  few : (b : ℕ) → l.fn.stretch.high - l.fn.stretch.low < 2 ^ b → (d : ℕ) × (l.meter.comparisons + d ≡ l.fn.meter.comparisons + b) × (l.high - l.low < 2 ^ d);
  none_decoded : l.meter.segments ≡ l.fn.meter.segments;
}

abbrev pub decreases-loop-low : goal.decreases-loop-low
decreases-loop-low l = l.high - l.low
