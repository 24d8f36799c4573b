use Rattle.std.proofs.Common.{◌≡◌, false, length}
use Rattle.smap_pairs.specs.FrameUrl.{has_blank_in_query}
use Rattle.smap_pairs.specs.Signs.{signs}
use Rattle.smap_pairs.proofs.frame_url.has_blank_in_query.Given as goal

abbrev pub invariant-loop-byte : goal.invariant-loop-byte
invariant-loop-byte l = has_blank_in_query false (signs l.fn.url) ≡ has_blank_in_query l.is_in_query (signs l.rest)

abbrev pub decreases-loop-byte : goal.decreases-loop-byte
decreases-loop-byte l = length l.rest
