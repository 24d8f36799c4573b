use Rattle.std.proofs.Common.{◌≡◌, ◌+◌, ◌≤◌, count_by, length}
use Rattle.smap_anywhere.proofs.CountLaws.{is_end}
use Rattle.smap_anywhere.proofs.line_ends.count_ends.Given as goal

-- those of the rest are still to be counted
abbrev pub invariant-loop-place : goal.invariant-loop-place
invariant-loop-place l = record {
  counted : l.count + count_by is_end l.rest ≡ count_by is_end l.text;
  few : l.count + length l.rest ≤ length l.text;
}

abbrev pub decreases-loop-place : goal.decreases-loop-place
decreases-loop-place l = length l.rest
