use Rattle.std.proofs.Common.{◌≡◌, ◌-◌, length}
use Rattle.smap_c.specs.Frames.{next_frame_url}
use Rattle.smap_c.proofs.frames.next_frame_url.Given as goal

-- no line before this byte is a frame
abbrev pub invariant-loop-at : goal.invariant-loop-at
invariant-loop-at l = next_frame_url l.fn.trace l.fn.from ≡ next_frame_url l.fn.trace l.at

abbrev pub decreases-loop-at : goal.decreases-loop-at
decreases-loop-at l = length l.fn.trace - l.at
