use Rattle.std.proofs.Common.{◌≡◌, ◌≤◌, length, reverse}
use Rattle.smap_pairs.specs.PathStart.{colon_end}
use Rattle.smap_pairs.proofs.path_start.colon_end.Given as goal

abbrev pub invariant-loop-seen : goal.invariant-loop-seen
invariant-loop-seen l = record {
  same : colon_end 0 (reverse l.fn.text) ≡ colon_end l.behind (reverse l.rest);
  few : length l.rest ≤ length l.fn.text;
}

abbrev pub decreases-loop-seen : goal.decreases-loop-seen
decreases-loop-seen l = length l.rest
