use Rattle.std.proofs.Common.{◌-◌, ◌≤◌, List, ℕ}
use Rattle.std.specs.Str.{chars}
use Rattle.smap_fit.specs.Private.Places.{IsLeft}
use Rattle.smap_fit.proofs.line_place.walked.Given as goal

-- the place goes on in its line, up to the column
abbrev pub invariant-loop-here : goal.invariant-loop-here
invariant-loop-here l = record {
  within : l.here.column ≤ l.column;
  left : (whole : List ℕ) → IsLeft whole l.initial.here.column l.initial.here.before (chars l.initial.here.left.now)
      → IsLeft whole l.here.column l.here.before (chars l.here.left.now);
}

abbrev pub decreases-loop-here : goal.decreases-loop-here
decreases-loop-here l = l.column - l.here.column
