use Rattle.std.proofs.Common.{ℕ, ◌-◌, ◌≤◌}
use Rattle.smap_mappings.specs.LineWalk.{IsPassed}
use Rattle.smap_mappings.specs.State.{IsAfter}
use Rattle.smap_mappings.proofs.line_walk.walk_line.Given as goal

abbrev pub invariant-loop-passed : goal.invariant-loop-passed
invariant-loop-passed l = record {
  few : l.passed ≤ l.most;
  passed : (j : ℕ) → IsAfter l.bytes j l.fn.cursor → IsPassed l.bytes j l.fn.cursor l.end l.passed l.kind l.at;
}

abbrev pub decreases-loop-passed : goal.decreases-loop-passed
decreases-loop-passed l = l.most - l.passed
