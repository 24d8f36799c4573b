use Rattle.std.proofs.Common.{◌≡◌, length}
use Rattle.smap_pairs.specs.FrameUrl.{has_barred_query}
use Rattle.smap_pairs.proofs.frame_url.has_barred_query.Given as goal

abbrev pub invariant-loop-seen : goal.invariant-loop-seen
invariant-loop-seen l = has_barred_query l.fn.url ≡ has_barred_query l.rest

abbrev pub decreases-loop-seen : goal.decreases-loop-seen
decreases-loop-seen l = length l.rest
