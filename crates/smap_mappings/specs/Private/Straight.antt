-- A segment that was read in one go, its differences added as they were read.
use Rattle.std.specs.Prelude.{◌≡◌, ℕ, List, Option, Some, None, Bool, true, ◌&&◌, not, nat_lt, ℤ, pos, ◌+ℤ◌}
use Rattle.smap_mappings.specs.Mappings.{Delta, difference}
use Rattle.smap_mappings.specs.Accepted.{is_below_zero, is_in_range, are_in_range}
use Rattle.smap_mappings.specs.State.{values_at}
use Rattle.smap_mappings.specs.Private.Reading.{IsFieldAt, IsSegmentAt, delta_in}
use Rattle.smap_mappings.specs.declared.cursor.Cursor.{Cursor}
use Rattle.smap_mappings.specs.declared.segment.Segment.{Segment}
use Rattle.smap_mappings.specs.declared.segment.OriginFields.{OriginFields}
use Rattle.smap_mappings.specs.declared.kind.Kind.{Kind}
use Rattle.smap_mappings.specs.declared.kind.Kind.TheVariants.{Unmapped, Mapped, Named}
use Rattle.smap_mappings.specs.declared.straight.StraightSegment.{StraightSegment}

-- how many digits a segment has at most, which has five numbers
abbrev pub most_segment_digits : ℕ
most_segment_digits = 35

-- ---- a running value and a difference

-- the value moved is the sum, where that is in range, and where both values are
pub record IsMoved (value : ℕ) (difference : ℤ) (moved : ℕ) : Type 0 where
  pub sum : is_in_range (pos value +ℤ difference) ≡ true → pos moved ≡ pos value +ℤ difference
  pub both : is_in_range (pos value) ≡ true → is_in_range (pos moved) ≡ true → pos moved ≡ pos value +ℤ difference

-- a field stands at the place, and the others after it, and the value is moved by it
pub record IsMovedBy (text : List ℕ) (place value moved next : ℕ) : Type 0 where
  pub difference : ℤ
  pub field : IsFieldAt text place difference next
  pub is_moved : IsMoved value difference moved

-- each running value is moved by a segment's difference
pub record AreMoved (cursor : Cursor) (delta : Delta) (after : Cursor) : Type 0 where
  pub column : IsMoved cursor.column (difference 0 delta) after.column
  pub source : IsMoved cursor.source (difference 1 delta) after.source
  pub original_line : IsMoved cursor.original_line (difference 2 delta) after.original_line
  pub original_column : IsMoved cursor.original_column (difference 3 delta) after.original_column
  pub name : IsMoved cursor.name (difference 4 delta) after.name

-- ---- a segment

-- what a segment has beside this name
abbrev pub kind_named : Option ℤ → Kind
kind_named None = Mapped
kind_named (Some name) = Named

-- what a segment has that has these fields after its first
abbrev pub kind_with : Option OriginFields → Kind
kind_with None = Unmapped
kind_with (Some origin) = kind_named origin.name

-- a segment stands at the state's place, and was read
pub record IsReadAfter (text : List ℕ) (cursor : Cursor) (straight : StraightSegment) : Type 0 where
  pub segment : Segment
  pub reads : IsSegmentAt text cursor.place segment straight.after.place
  pub kind : straight.kind ≡ kind_with segment.origin
  pub first : straight.first ≡ segment.column
  pub line : straight.after.line ≡ cursor.line
  pub moved : AreMoved cursor (delta_in cursor.line segment) straight.after

-- the name, where there is one, is among those that there are
abbrev pub is_name_listed : ℕ → Kind → Cursor → Bool
is_name_listed names Unmapped after = true
is_name_listed names Mapped after = true
is_name_listed names Named after = nat_lt after.name names

-- the source and the name, where there are these, are among those that there are
abbrev pub are_listed : ℕ → ℕ → Kind → Cursor → Bool
are_listed sources names Unmapped after = true
are_listed sources names Mapped after = nat_lt after.source sources
are_listed sources names Named after = nat_lt after.source sources && nat_lt after.name names

-- the first field is not negative, and the values after are in range
abbrev pub is_fitting : StraightSegment → Bool
is_fitting straight = not (is_below_zero straight.first) && are_in_range (values_at straight.after)
