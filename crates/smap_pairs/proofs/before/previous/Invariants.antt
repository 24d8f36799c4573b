use Rattle.std.proofs.Common.{◌≡◌, ◌≤◌, length, reverse}
use Rattle.smap_pairs.specs.Before.{before_in}
use Rattle.smap_pairs.proofs.before.previous.Given as goal

abbrev pub invariant-loop-seen : goal.invariant-loop-seen
invariant-loop-seen l = record {
  same : before_in l.is_stretch (reverse l.fn.before) ≡ before_in l.is_stretch (reverse l.rest);
  few : length l.rest ≤ length l.fn.before;
}

abbrev pub decreases-loop-seen : goal.decreases-loop-seen
decreases-loop-seen l = length l.rest
