use Rattle.std.proofs.Common.{◌≡◌, false, length}
use Rattle.smap_pairs.specs.FrameUrl.{is_in_scheme}
use Rattle.smap_pairs.specs.Private.FrameReading.{seen_as}
use Rattle.smap_pairs.proofs.frame_url.is_in_scheme.Given as goal

abbrev pub invariant-loop-byte : goal.invariant-loop-byte
invariant-loop-byte l = is_in_scheme false (seen_as l.stands l.fn.text) ≡ is_in_scheme l.has_dot (seen_as l.stands l.rest)

abbrev pub decreases-loop-byte : goal.decreases-loop-byte
decreases-loop-byte l = length l.rest
