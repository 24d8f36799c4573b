use Rattle.std.proofs.Common.{◌≡◌, false, length}
use Rattle.smap_pairs.specs.FrameUrl.{has_scheme_behind_sign}
use Rattle.smap_pairs.specs.Signs.{signs}
use Rattle.smap_pairs.proofs.frame_url.has_scheme_behind_sign.Given as goal

abbrev pub invariant-loop-byte : goal.invariant-loop-byte
invariant-loop-byte l = has_scheme_behind_sign false (signs l.fn.url) ≡ has_scheme_behind_sign l.is_behind_sign (signs l.rest)

abbrev pub decreases-loop-byte : goal.decreases-loop-byte
decreases-loop-byte l = length l.rest
