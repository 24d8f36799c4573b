use Rattle.std.proofs.Common.{◌-◌, ◌≤◌, length}
use Rattle.smap_trace.proofs.CutLaws.{NoCallBefore}
use Rattle.smap_trace.proofs.cuts.cut_at_call.Given as goal

-- no ` (` ends before the place
abbrev pub invariant-loop-further : goal.invariant-loop-further
invariant-loop-further l = record {
  within : l.place ≤ length l.text;
  none : NoCallBefore l.text l.place;
}

abbrev pub decreases-loop-further : goal.decreases-loop-further
decreases-loop-further l = length l.text - l.place
