use Rattle.std.proofs.Common.{◌≡◌, ◌≤◌, length, reverse}
use Rattle.smap_pairs.specs.PathStart.{edge_end}
use Rattle.smap_pairs.proofs.path_start.edge_end.Given as goal

abbrev pub invariant-loop-seen : goal.invariant-loop-seen
invariant-loop-seen l = record {
  same : edge_end (reverse l.fn.text) ≡ edge_end (reverse l.rest);
  few : length l.rest ≤ length l.fn.text;
}

abbrev pub decreases-loop-seen : goal.decreases-loop-seen
decreases-loop-seen l = length l.rest
