use Rattle.std.proofs.Common.{◌≡◌, ◌≤◌, length}
use Rattle.smap_pairs.specs.Signs.{signs}
use Rattle.smap_pairs.proofs.signs.next_sign.Given as goal

abbrev pub invariant-loop-seen : goal.invariant-loop-seen
invariant-loop-seen l = record {
  same : signs l.fn.line ≡ signs l.rest;
  few : length l.rest ≤ length l.fn.line;
}

abbrev pub decreases-loop-seen : goal.decreases-loop-seen
decreases-loop-seen l = length l.rest
