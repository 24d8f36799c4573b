use Rattle.std.proofs.Common.{◌≡◌, false, length, reverse}
use Rattle.smap_pairs.specs.Before.{has_separator}
use Rattle.smap_pairs.specs.Signs.{text_of}
use Rattle.smap_pairs.proofs.frame_url.has_separator.Given as goal

abbrev pub invariant-loop-seen : goal.invariant-loop-seen
invariant-loop-seen l = has_separator false (reverse (text_of l.fn.before)) ≡ has_separator l.is_before_digit (reverse (text_of l.rest))

abbrev pub decreases-loop-seen : goal.decreases-loop-seen
decreases-loop-seen l = length l.rest
