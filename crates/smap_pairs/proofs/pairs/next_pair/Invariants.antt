use Rattle.std.proofs.Common.{◌≡◌, ◌-◌, ◌≤◌, length, drop}
use Rattle.smap_pairs.specs.Pairs.{pairs_behind, pairs_from}
use Rattle.smap_pairs.proofs.pairs.next_pair.Given as goal

abbrev pub invariant-loop-bytes : goal.invariant-loop-bytes
invariant-loop-bytes l = record {
  low : l.fn.piece ≤ l.at;
  within : l.at ≤ length l.line;
  left : pairs_behind l.line l.piece ≡ pairs_from l.at l.piece 0 (drop l.at l.line);
}

abbrev pub decreases-loop-bytes : goal.decreases-loop-bytes
decreases-loop-bytes l = length l.line - l.at
