use Rattle.std.proofs.Common.{◌≡◌, length}
use Rattle.smap_pairs.specs.Absolute.{is_behind_scheme}
use Rattle.smap_pairs.specs.Signs.{signs}
use Rattle.smap_pairs.proofs.absolute.is_behind_scheme.Given as goal

abbrev pub invariant-loop-byte : goal.invariant-loop-byte
invariant-loop-byte l = is_behind_scheme (signs l.fn.url) ≡ is_behind_scheme (signs l.rest)

abbrev pub decreases-loop-byte : goal.decreases-loop-byte
decreases-loop-byte l = length l.rest
