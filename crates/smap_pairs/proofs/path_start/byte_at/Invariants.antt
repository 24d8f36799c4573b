use Rattle.std.proofs.Common.{◌≡◌, ◌==◌, ◌+◌, ◌≤◌, length}
use Rattle.std.specs.List.{position_or_len}
use Rattle.smap_pairs.proofs.path_start.byte_at.Given as goal

abbrev pub invariant-loop-seen : goal.invariant-loop-seen
invariant-loop-seen l = record {
  same : length l.rest + position_or_len (λ seen. seen.byte == l.byte) l.fn.word ≡ length l.fn.word + position_or_len (λ seen. seen.byte == l.byte) l.rest;
  few : length l.rest ≤ length l.fn.word;
}

abbrev pub decreases-loop-seen : goal.decreases-loop-seen
decreases-loop-seen l = length l.rest
