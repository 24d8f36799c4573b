use Rattle.std.proofs.Common.{◌-◌, ◌≤◌, length}
use Rattle.smap_pairs.specs.VirtualLines.{line_of_byte}
use Rattle.smap_pairs.proofs.virtual_lines.line_of_byte.Given as goal

abbrev pub invariant-loop-index : goal.invariant-loop-index
invariant-loop-index l = l.index ≤ line_of_byte l.lines l.place

abbrev pub decreases-loop-index : goal.decreases-loop-index
decreases-loop-index l = length l.lines - l.index
