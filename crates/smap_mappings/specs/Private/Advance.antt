-- A state that goes on after a segment.
use Rattle.std.specs.Prelude.{◌≡◌, ℕ, Option, None, ◌+ℤ◌}
use Rattle.smap_mappings.specs.Mappings.{Delta, RunningValues, difference}
use Rattle.smap_mappings.specs.Accepted.{is_below_zero}
use Rattle.smap_mappings.specs.Faults.{values_fault}
use Rattle.smap_mappings.specs.State.{values_at}
use Rattle.smap_mappings.specs.Private.Reading.{fields_in, delta_in}
use Rattle.smap_mappings.specs.declared.cursor.Cursor.{Cursor}
use Rattle.smap_mappings.specs.declared.fault.FaultKind.{FaultKind}
use Rattle.smap_mappings.specs.declared.segment.Segment.{Segment}

-- the values after a segment with this delta, on its line
abbrev pub values_after : RunningValues → Delta → RunningValues
values_after values delta = record {
  column = values.column +ℤ difference 0 delta;
  source = values.source +ℤ difference 1 delta;
  original_line = values.original_line +ℤ difference 2 delta;
  original_column = values.original_column +ℤ difference 3 delta;
  name = values.name +ℤ difference 4 delta;
}

-- the least kind that holds of the values that the segment leaves, where any negative first field falls
abbrev pub sums_fault : ℕ → ℕ → Segment → RunningValues → Option FaultKind
sums_fault sources names segment values = values_fault sources names (is_below_zero segment.column) (fields_in segment) values

-- the later state is the one after the segment, and its values have no fault
pub record IsAdvanced (cursor : Cursor) (segment : Segment) (end sources names : ℕ) (after : Cursor) : Type 0 where
  pub place : after.place ≡ end
  pub line : after.line ≡ cursor.line
  pub values : values_at after ≡ values_after (values_at cursor) (delta_in cursor.line segment)
  pub allowed : sums_fault sources names segment (values_at after) ≡ None
