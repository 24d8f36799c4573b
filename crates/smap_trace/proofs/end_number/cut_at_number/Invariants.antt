use Rattle.std.proofs.Common.{◌≤◌, ◌<◌, length, drop}
use Rattle.smap_trace.proofs.CutLaws.{is_without}
use Rattle.smap_trace.proofs.EndNumberLaws.{Reads}
use Rattle.smap_trace.proofs.end_number.cut_at_number.Given as goal

-- what was read of the number, from the place on
abbrev pub invariant-loop-start : goal.invariant-loop-start
invariant-loop-start l = record {
  within : l.start ≤ length l.text;
  some : 0 < l.unit;
  few : l.unit ≤ 21474836480;
  small : l.value < l.unit;
  reads : Reads l.unit l.value (drop l.start l.text);
  without : is_without 58 (drop l.start l.text);
}

abbrev pub decreases-loop-start : goal.decreases-loop-start
decreases-loop-start l = l.start
