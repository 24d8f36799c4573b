use Rattle.std.proofs.Common.{◌≡◌, ◌≤◌, Some, drop, length}
use Rattle.smap_pairs.specs.Brackets.{closed_by}
use Rattle.smap_pairs.specs.Signs.{text_of}
use Rattle.smap_pairs.proofs.brackets.has_paired_brackets.Given as goal

-- what has been passed
abbrev pub invariant-loop-at : goal.invariant-loop-at
invariant-loop-at l = record {
  closed : closed_by (text_of (drop l.at l.text)) ≡ Some l.closed;
  within : l.at ≤ length l.text;
}

abbrev pub decreases-loop-at : goal.decreases-loop-at
decreases-loop-at l = l.at
