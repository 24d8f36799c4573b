use Rattle.std.proofs.Common.{◌≡◌, false, length}
use Rattle.smap_pairs.specs.FrameUrl.{has_function}
use Rattle.smap_pairs.specs.Signs.{signs}
use Rattle.smap_pairs.proofs.frame_url.has_function.Given as goal

abbrev pub invariant-loop-byte : goal.invariant-loop-byte
invariant-loop-byte l = has_function false (signs l.fn.url) ≡ has_function l.is_behind_angle (signs l.rest)

abbrev pub decreases-loop-byte : goal.decreases-loop-byte
decreases-loop-byte l = length l.rest
