use Rattle.std.proofs.Common.{◌≡◌, ◌-◌, ◌≤◌, length}
use Rattle.smap_pairs.specs.Chunks.{line_end_from}
use Rattle.smap_pairs.proofs.chunk.last_line_end.Given as goal

abbrev pub invariant-loop-at : goal.invariant-loop-at
invariant-loop-at l = record {
  same : line_end_from 0 0 0 l.text ≡ line_end_from l.last (length l.text - length l.rest) 0 l.rest;
  within : length l.rest ≤ length l.text;
}

abbrev pub decreases-loop-at : goal.decreases-loop-at
decreases-loop-at l = length l.rest
