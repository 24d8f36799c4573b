use Rattle.std.proofs.Common.{◌≡◌, false, length}
use Rattle.smap_pairs.specs.FrameUrl.{begins_again}
use Rattle.smap_pairs.specs.Signs.{signs}
use Rattle.smap_pairs.proofs.frame_url.begins_again.Given as goal

abbrev pub invariant-loop-byte : goal.invariant-loop-byte
invariant-loop-byte l = begins_again false (signs l.fn.url) ≡ begins_again l.is_behind_blank (signs l.rest)

abbrev pub decreases-loop-byte : goal.decreases-loop-byte
decreases-loop-byte l = length l.rest
