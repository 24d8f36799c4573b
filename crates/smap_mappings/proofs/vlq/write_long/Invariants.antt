use Rattle.std.proofs.Common.{◌+◌, ◌^◌, ◌≡◌, ◌++◌, ◌<◌, ◌≤◌, ℕ, length, vec_len, vec_capacity}
use Rattle.smap_mappings.specs.Limits.{most_digits}
use Rattle.smap_mappings.specs.Canonical.{digits_of}
use Rattle.smap_mappings.proofs.vlq.write_long.Given as goal

-- the digits after those written are those of the rest, and there is room for them
abbrev pub invariant-loop-rest : goal.invariant-loop-rest
invariant-loop-rest l = record {
  left : ℕ;
  some : 0 < left;
  below : l.rest < 32 ^ left;
  written : l.out.items ++ digits_of left l.rest ≡ l.fn.out.items ++ digits_of most_digits l.unsigned;
  room : vec_len l.out + length (digits_of left l.rest) ≤ vec_capacity l.out;
}

abbrev pub decreases-loop-rest : goal.decreases-loop-rest
decreases-loop-rest l = l.rest
