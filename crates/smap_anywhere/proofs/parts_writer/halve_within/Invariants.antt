use Rattle.std.proofs.Common.{◌≡◌, ◌≤◌, ◌+◌, ◌++◌, length, take}
use Rattle.smap_pairs.specs.Halved.{halved}
use Rattle.smap_anywhere.proofs.parts_writer.halve_within.Given as goal

-- what is halved so far stands before what becomes of the rest, and there is room for that
abbrev pub invariant-loop-byte : goal.invariant-loop-byte
invariant-loop-byte l = record {
  halved : halved l.text ≡ take l.count l.room ++ halved l.rest;
  few : l.count + length l.rest ≤ length l.text;
}

abbrev pub decreases-loop-byte : goal.decreases-loop-byte
decreases-loop-byte l = length l.rest
