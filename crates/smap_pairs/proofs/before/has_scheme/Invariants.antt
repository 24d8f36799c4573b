use Rattle.std.proofs.Common.{◌≡◌, length, reverse}
use Rattle.smap_pairs.specs.Before.{has_scheme, stretch}
use Rattle.smap_pairs.proofs.before.has_scheme.Given as goal

abbrev pub invariant-loop-byte : goal.invariant-loop-byte
invariant-loop-byte l = has_scheme 0 0 (stretch (reverse l.fn.before)) ≡ has_scheme l.next l.after (stretch (reverse l.rest))

abbrev pub decreases-loop-byte : goal.decreases-loop-byte
decreases-loop-byte l = length l.rest
