use Rattle.std.proofs.Common.{◌≡◌, length, reverse}
use Rattle.std.specs.Bool.{nat_eq}
use Rattle.std.specs.List.{starts_with}
use Rattle.smap_pairs.specs.Before.{counts_of}
use Rattle.smap_pairs.proofs.before.ends_with.Given as goal

abbrev pub invariant-loop-byte : goal.invariant-loop-byte
invariant-loop-byte l =
    starts_with nat_eq (counts_of (reverse l.fn.before)) (reverse l.fn.text) ≡ starts_with nat_eq (counts_of (reverse l.rest)) (reverse l.wanted)

abbrev pub decreases-loop-byte : goal.decreases-loop-byte
decreases-loop-byte l = length l.wanted
