use Rattle.std.proofs.Common.{◌≡◌, false, length, reverse}
use Rattle.smap_pairs.specs.Before.{before_in, has_separator}
use Rattle.smap_pairs.proofs.before.has_path.Given as goal

abbrev pub invariant-loop-byte : goal.invariant-loop-byte
invariant-loop-byte l = has_separator false (before_in l.is_stretch (reverse l.fn.before)) ≡ has_separator l.is_before_digit (before_in l.is_stretch (reverse l.rest))

abbrev pub decreases-loop-byte : goal.decreases-loop-byte
decreases-loop-byte l = length l.rest
