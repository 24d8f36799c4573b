use Rattle.std.proofs.Common.{◌≡◌, drop, nat_eq}
use Rattle.std.specs.List.{starts_with}
use Rattle.smap_pairs.specs.Private.FrameReading.{seen_as}
use Rattle.smap_pairs.proofs.frame_url.begins_with.Given as goal

abbrev pub invariant-loop-wanted : goal.invariant-loop-wanted
invariant-loop-wanted l = starts_with nat_eq (seen_as l.stands l.fn.text) l.bytes ≡ starts_with nat_eq (seen_as l.stands l.rest) (drop l.wanted-index l.bytes)
