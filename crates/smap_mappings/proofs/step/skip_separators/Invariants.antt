use Rattle.std.proofs.Common.{◌≡◌, ℕ, ◌-◌, ◌≤◌, length, true}
use Rattle.smap_mappings.specs.Accepted.{are_in_range}
use Rattle.smap_mappings.specs.State.{values_at, IsAfter}
use Rattle.smap_mappings.proofs.step.skip_separators.Given as goal

-- no segment lies between the state of the caller and this one
abbrev pub invariant-loop-at : goal.invariant-loop-at
invariant-loop-at l = record {
  inside : l.at.place ≤ length l.bytes;
  line_within : l.at.line ≤ l.at.place;
  onward : l.fn.cursor.place ≤ l.at.place;
  down : l.fn.cursor.line ≤ l.at.line;
  in_range : are_in_range (values_at l.fn.cursor) ≡ true → are_in_range (values_at l.at) ≡ true;
  after : (j : ℕ) → IsAfter l.bytes j l.fn.cursor → IsAfter l.bytes j l.at;
}

abbrev pub decreases-loop-at : goal.decreases-loop-at
decreases-loop-at l = length l.bytes - l.at.place
