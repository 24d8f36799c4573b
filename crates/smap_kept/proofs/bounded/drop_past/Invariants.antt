use Rattle.std.proofs.Common.{◌≡◌, drop, length, take}
use Rattle.smap_kept.specs.Bounded.{bytes_of, fitting}
use Rattle.smap_kept.proofs.bounded.drop_past.Given as goal

abbrev pub invariant-loop-left : goal.invariant-loop-left
invariant-loop-left g l = record {
  sum : bytes_of (drop 1 l.entries) ≡ l.left;
  first : take 1 l.entries ≡ take 1 l.initial.entries;
  fit : fitting l.room (drop 1 l.entries) ≡ fitting l.room (drop 1 l.initial.entries);
}

abbrev pub decreases-loop-left : goal.decreases-loop-left
decreases-loop-left g l = length l.entries
