-- The first faulty segment of a text, and the least kind of fault that holds of it (ECMA-426, Mappings structure).
-- This project's own are: the column that may not fall, the limit 2147483647, the order of the kinds, and that one
-- faulty segment refuses the whole text. The rules for numbers stand in `Vlq`, the range of values in `Accepted`.
use Rattle.std.specs.Prelude.{ℕ, List, [], ◌∷◌, ◌++◌, Option, Some, None, Bool, false, ◌&&◌, ◌||◌, not, if◌then◌else◌, ℤ, pos, int_lt}
use Rattle.std.specs.List.{list_any}
use Rattle.std.specs.Option.{option_map}
use Rattle.smap_mappings.specs.Vlq.{is_digit, is_continuing, is_too_long, is_too_large, is_negative_zero}
use Rattle.smap_mappings.specs.Segment.{cuts_of, has_known_length, has_origin, has_name}
use Rattle.smap_mappings.specs.Segments.{TextSegment, segments_of}
use Rattle.smap_mappings.specs.Mappings.{Delta, RunningValues, delta_of, has_segment_on, difference, values_on}
use Rattle.smap_mappings.specs.Accepted.{is_below_zero, is_past_limit}
use Rattle.smap_mappings.specs.declared.fault.Fault.{Fault}
use Rattle.smap_mappings.specs.declared.fault.FaultKind.{FaultKind}
use Rattle.smap_mappings.specs.declared.fault.FaultKind.TheVariants.{BadDigit, Unended, TooLong, TooLarge, NegativeZero, FieldCount, Negative}
use Rattle.smap_mappings.specs.declared.fault.FaultKind.TheVariants.{PastLimit, ColumnFalls, SourceIndex, NameIndex}

-- ---- how a segment is spelled

-- one of the bytes is no digit
abbrev pub has_bad_digit : List ℕ → Bool
has_bad_digit bytes = list_any (λ byte. not (is_digit byte)) bytes

-- the last byte says that another digit follows
abbrev pub is_unended : List ℕ → Bool
is_unended [] = false
is_unended (byte ∷ []) = is_continuing byte
is_unended (byte ∷ next ∷ bytes) = is_unended (next ∷ bytes)

-- the least kind that holds of the segment's numbers, its bytes cut after each digit that ends one
abbrev pub numbers_fault : List (List ℕ) → Option FaultKind
numbers_fault numbers =
    if list_any is_too_long numbers then Some TooLong
    else (if list_any is_too_large numbers then Some TooLarge
    else (if list_any is_negative_zero numbers then Some NegativeZero
    else (if not (has_known_length numbers) then Some FieldCount
    else None)))

-- the least kind that holds of how a segment is spelled
unfoldable pub spelling_fault : List ℕ → Option FaultKind
spelling_fault bytes =
    if has_bad_digit bytes then Some BadDigit
    else (if is_unended bytes then Some Unended
    else numbers_fault (cuts_of bytes))

-- ---- what a segment does to the running values

-- one of the five values is negative
abbrev pub has_value_below_zero : RunningValues → Bool
has_value_below_zero values =
    is_below_zero values.column || is_below_zero values.source || is_below_zero values.original_line || is_below_zero
    values.original_column || is_below_zero values.name

-- one of the five values is past the limit
abbrev pub has_value_past_limit : RunningValues → Bool
has_value_past_limit values =
    is_past_limit values.column || is_past_limit values.source || is_past_limit values.original_line || is_past_limit
    values.original_column || is_past_limit values.name

-- the least kind that holds of the values that a segment with these fields leaves; its column falls where its first
-- field is negative, and an earlier segment stands on its line
abbrev pub values_fault : ℕ → ℕ → Bool → List ℤ → RunningValues → Option FaultKind
values_fault sources names falls fields values =
    if has_value_below_zero values then Some Negative
    else (if has_value_past_limit values then Some PastLimit
    else (if falls then Some ColumnFalls
    else (if has_origin fields && not (int_lt values.source (pos sources)) then Some SourceIndex
    else (if has_name fields && not (int_lt values.name (pos names)) then Some NameIndex
    else None))))

-- the least kind that holds of the values after a segment that stands after these
unfoldable pub delta_fault : ℕ → ℕ → List Delta → Delta → Option FaultKind
delta_fault sources names before delta =
    values_fault sources names (has_segment_on delta.line before && is_below_zero (difference 0 delta)) delta.fields
    (values_on delta.line (before ++ delta ∷ []))

-- ---- the first fault

-- the first kind, where there is one, and else the other
abbrev pub first_kind : Option FaultKind → Option FaultKind → Option FaultKind
first_kind None other = other
first_kind (Some kind) other = Some kind

-- the least kind that holds of a segment that stands after these
abbrev pub segment_fault : ℕ → ℕ → List Delta → TextSegment → Option FaultKind
segment_fault sources names before segment = first_kind (spelling_fault segment.bytes) (delta_fault sources names before (delta_of segment))

-- a faulty segment, the lines and fields of all segments before it, and the least kind that holds of it
pub record FaultyPlace : Type 0 where
  pub before : List Delta
  pub segment : TextSegment
  pub kind : FaultKind

-- the segment after these with this kind of fault, and where it has none, the others' faulty one
abbrev pub faulty_or : Option FaultKind → List Delta → TextSegment → Option FaultyPlace → Option FaultyPlace
faulty_or None before segment others = others
faulty_or (Some kind) before segment others = Some (record { before = before; segment = segment; kind = kind })

-- the first faulty one of these segments, which stand after those before
abbrev pub first_faulty_after : ℕ → ℕ → List Delta → List TextSegment → Option FaultyPlace
first_faulty_after sources names before [] = None
first_faulty_after sources names before (segment ∷ segments) =
    faulty_or (segment_fault sources names before segment) before segment (first_faulty_after sources names (before ++ delta_of segment ∷ []) segments)

-- the first segment, in the order of the text, of which some kind holds, with the least that does
unfoldable pub first_faulty : List ℕ → ℕ → ℕ → Option FaultyPlace
first_faulty text sources names = first_faulty_after sources names [] (segments_of text)

-- where a faulty segment begins, its line and its kind
abbrev pub fault_of : FaultyPlace → Fault
fault_of faulty = record { byte = faulty.segment.place; line = faulty.segment.line; kind = faulty.kind }

-- the fault of the first faulty segment
unfoldable pub first_fault : List ℕ → ℕ → ℕ → Option Fault
first_fault text sources names = option_map fault_of (first_faulty text sources names)
