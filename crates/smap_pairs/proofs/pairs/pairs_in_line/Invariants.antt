use Rattle.std.proofs.Common.{◌≡◌, ◌-◌, ◌≤◌, ◌++◌, length, vec_capacity}
use Rattle.smap_pairs.specs.Pairs.{pairs_behind, pairs_of}
use Rattle.smap_pairs.proofs.pairs.pairs_in_line.Given as goal

abbrev pub invariant-loop-pair : goal.invariant-loop-pair
invariant-loop-pair l = record {
  within : l.piece ≤ length l.line;
  left : pairs_of l.line ≡ l.pairs.items ++ pairs_behind l.line l.piece;
  capacity : vec_capacity l.fn.pairs ≤ vec_capacity l.pairs;
}

abbrev pub decreases-loop-pair : goal.decreases-loop-pair
decreases-loop-pair l = length l.line - l.piece
