use Rattle.std.proofs.Common.{◌≡◌, ◌≤◌, ◌+◌, ◌++◌, length, vec_capacity}
use Rattle.smap_pairs.specs.Halved.{halved}
use Rattle.smap_pairs.proofs.halved.halve_into.Given as goal

-- what is halved so far stands before what becomes of the rest, and there is room for that
abbrev pub invariant-loop-byte : goal.invariant-loop-byte
invariant-loop-byte l = record {
  halved : halved l.text ≡ l.halves.items ++ halved l.rest;
  few : length l.halves.items + length l.rest ≤ length l.text;
  capacity : vec_capacity l.fn.halves ≤ vec_capacity l.halves;
}

abbrev pub decreases-loop-byte : goal.decreases-loop-byte
decreases-loop-byte l = length l.rest
