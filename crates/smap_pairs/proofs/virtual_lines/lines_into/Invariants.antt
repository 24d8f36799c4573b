use Rattle.std.proofs.Common.{◌≡◌, ◌++◌, ◌≤◌, drop, if◌then◌else◌, length, vec_capacity}
use Rattle.smap_pairs.specs.VirtualLines.{lines_between, marks_of_strings}
use Rattle.smap_pairs.proofs.virtual_lines.lines_into.Given as goal

-- the lines so far, and those between such marks as are left; and the room is there
abbrev pub invariant-loop-mark : goal.invariant-loop-mark
invariant-loop-mark l = record {
  so_far : let left = drop l.mark-index l.marks in
      l.lines.items ++ lines_between (length l.line) l.start l.unit (if l.is_of_strings then marks_of_strings l.unit left else left)
      ≡ lines_between (length l.line) 0 0 (if l.is_of_strings then marks_of_strings 0 l.marks else l.marks);
  room : vec_capacity l.fn.lines ≤ vec_capacity l.lines;
}
