use Rattle.std.proofs.Common.{◌≡◌, ◌++◌, ◌≤◌, drop, vec_capacity}
use Rattle.smap_pairs.specs.Marks.{marks_from, marks_of}
use Rattle.smap_pairs.proofs.marks.marks_into.Given as goal

-- the marks so far, and those of what is left; and the room is there
abbrev pub invariant-loop-at : goal.invariant-loop-at
invariant-loop-at l = record {
  so_far : l.marks.items ++ marks_from l.line l.at (drop l.at l.line) ≡ marks_of l.line;
  room : vec_capacity l.fn.marks ≤ vec_capacity l.marks;
}
