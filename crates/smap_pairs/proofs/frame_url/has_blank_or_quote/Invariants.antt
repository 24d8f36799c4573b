use Rattle.std.proofs.Common.{◌≡◌, length}
use Rattle.smap_pairs.specs.FrameUrl.{has_blank_or_quote}
use Rattle.smap_pairs.specs.Signs.{signs}
use Rattle.smap_pairs.proofs.frame_url.has_blank_or_quote.Given as goal

abbrev pub invariant-loop-byte : goal.invariant-loop-byte
invariant-loop-byte l = has_blank_or_quote (signs l.fn.url) ≡ has_blank_or_quote (signs l.rest)

abbrev pub decreases-loop-byte : goal.decreases-loop-byte
decreases-loop-byte l = length l.rest
