use Rattle.std.proofs.Common.{◌≡◌, ◌≤◌, length}
use Rattle.smap_pairs.proofs.SeenLaws.{settled_to}
use Rattle.smap_pairs.proofs.settled.settle.Given as goal

-- those from byte i on are settled
abbrev pub invariant-loop-i : goal.invariant-loop-i
invariant-loop-i l = record {
  within : l.i ≤ length l.fn.seen;
  settled : l.seen ≡ settled_to l.line l.fn.seen l.i;
}

abbrev pub decreases-loop-i : goal.decreases-loop-i
decreases-loop-i l = l.i
