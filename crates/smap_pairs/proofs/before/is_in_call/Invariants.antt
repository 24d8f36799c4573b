use Rattle.std.proofs.Common.{◌≡◌, ◌+◌, ◌≤◌, false, length, reverse}
use Rattle.smap_pairs.specs.Before.{counts_of, is_in_call}
use Rattle.smap_pairs.proofs.before.is_in_call.Given as goal

abbrev pub invariant-loop-seen : goal.invariant-loop-seen
invariant-loop-seen l = record {
  same : is_in_call 0 false (counts_of (reverse l.fn.before)) ≡ is_in_call l.closed l.has_blank (counts_of (reverse l.rest));
  few : l.closed + length l.rest ≤ length l.fn.before;
}

abbrev pub decreases-loop-seen : goal.decreases-loop-seen
decreases-loop-seen l = length l.rest
