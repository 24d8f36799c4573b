use Rattle.std.proofs.Common.{◌+◌, ◌^◌, ◌≡◌, ◌<◌, ℕ, length}
use Rattle.smap_mappings.specs.Limits.{most_digits}
use Rattle.smap_mappings.specs.Canonical.{digits_of}
use Rattle.smap_mappings.proofs.vlq.count_digits.Given as goal

-- the digits after those counted are those of the rest
abbrev pub invariant-loop-rest : goal.invariant-loop-rest
invariant-loop-rest l = record {
  left : ℕ;
  some : 0 < left;
  below : l.rest < 32 ^ left;
  counted : l.count + length (digits_of left l.rest) ≡ 1 + length (digits_of most_digits l.unsigned);
}

abbrev pub decreases-loop-rest : goal.decreases-loop-rest
decreases-loop-rest l = l.rest
