-- What is known of the first faulty segment of a mappings text (ECMA-426, Mappings structure): its text, its numbers, and the
-- value for which it is refused, with what that may be.
use Rattle.std.specs.Prelude.{◌≡◌, ℕ, ◌+◌, ◌-◌, List, Option, Some, None, option_map, option_and_then, if◌then◌else◌, length, min, take, slice_get, slice_range, string_bytes, ℤ, pos, negsuc, ◌+ℤ◌, ◌-ℤ◌}
use Rattle.std.specs.Option.{option_map_or}
use Rattle.smap_mappings.specs.Accepted.{is_below_zero, is_past_limit}
use Rattle.smap_mappings.specs.Faulty.{IsFirstFaulty}
use Rattle.smap_mappings.specs.Limits.{limit}
use Rattle.smap_mappings.specs.Measures.{first_bad_digit, long_number_digits, large_magnitude}
use Rattle.smap_mappings.specs.Segment.{fields_of}
use Rattle.smap_mappings.specs.declared.fault.Fault.{Fault}
use Rattle.smap_mappings.specs.declared.fault.FaultKind.{FaultKind}
use Rattle.smap_mappings.specs.declared.fault.FaultKind.TheVariants.{BadDigit, Unended, TooLong, TooLarge, NegativeZero, FieldCount, Negative}
use Rattle.smap_mappings.specs.declared.fault.FaultKind.TheVariants.{PastLimit, ColumnFalls, SourceIndex, NameIndex}
use Rattle.smap_mappings.specs.declared.faulty.FaultySegment.{FaultySegment}
use Rattle.smap_mappings.specs.declared.sums.RunningSums.{RunningSums}
use Rattle.smap_explain.specs.FrontOfText.{front_of_text}
use Rattle.smap_explain.specs.declared.explanation.Measure.{Measure}
use Rattle.smap_explain.specs.declared.explanation.Quantity.{Quantity}
use Rattle.smap_explain.specs.declared.explanation.Quantity.TheVariants.{Digit, Digits, Magnitude, Numbers, Column, Source, OriginalLine, OriginalColumn, Name}
use Rattle.smap_explain.specs.declared.explanation.SegmentFacts.{SegmentFacts}

-- ---- a value and what it may be

abbrev pub measured : Quantity → ℤ → Option ℤ → Option ℤ → Measure
measured quantity value least most = record { quantity = quantity; value = value; least = least; most = most }

-- a value that may be 0 up to the limit
abbrev pub ranged : Quantity → ℤ → Measure
ranged quantity value = measured quantity value (Some (pos 0)) (Some (pos limit))

-- a count, as far as 64 bits with a sign hold it
abbrev pub capped : ℕ → ℤ
capped count = pos (min count 9223372036854775807)

-- the first of the running values that is below 0
abbrev pub first_below_zero : RunningSums → Option Measure
first_below_zero sums =
    if is_below_zero sums.column then Some (ranged Column sums.column)
    else (if is_below_zero sums.source then Some (ranged Source sums.source)
    else (if is_below_zero sums.original_line then Some (ranged OriginalLine sums.original_line)
    else (if is_below_zero sums.original_column then Some (ranged OriginalColumn sums.original_column)
    else (if is_below_zero sums.name then Some (ranged Name sums.name)
    else None))))

-- the first of them that is past the limit
abbrev pub first_past_limit : RunningSums → Option Measure
first_past_limit sums =
    if is_past_limit sums.column then Some (ranged Column sums.column)
    else (if is_past_limit sums.source then Some (ranged Source sums.source)
    else (if is_past_limit sums.original_line then Some (ranged OriginalLine sums.original_line)
    else (if is_past_limit sums.original_column then Some (ranged OriginalColumn sums.original_column)
    else (if is_past_limit sums.name then Some (ranged Name sums.name)
    else None))))

-- what is wrong with these running values after the segment
abbrev pub measure_sums : FaultKind → ℕ → ℕ → ℕ → RunningSums → Option Measure
measure_sums Negative before sources names sums = first_below_zero sums
measure_sums PastLimit before sources names sums = first_past_limit sums
measure_sums ColumnFalls before sources names sums = Some (measured Column sums.column (Some (pos before)) (Some (pos limit)))
measure_sums SourceIndex before sources names sums = Some (measured Source sums.source (Some (pos 0)) (Some (pos sources -ℤ pos 1)))
measure_sums NameIndex before sources names sums = Some (measured Name sums.name (Some (pos 0)) (Some (pos names -ℤ pos 1)))
measure_sums other before sources names sums = None

abbrev pub measure_after : FaultKind → FaultySegment → ℕ → ℕ → Option Measure
measure_after kind reported sources names = option_and_then (measure_sums kind reported.before.column sources names) reported.after

-- how many numbers there are
abbrev pub measure_count : List ℤ → Measure
measure_count numbers = measured Numbers (capped (length numbers)) None None

-- what is wrong with a segment of these bytes that spell these numbers, if they do
abbrev pub measure_kind : FaultKind → List ℕ → FaultySegment → Option (List ℤ) → ℕ → ℕ → Option Measure
measure_kind BadDigit bytes reported numbers sources names = option_map (λ byte. measured Digit (pos byte) None None) (first_bad_digit bytes)
measure_kind Unended bytes reported numbers sources names = None
measure_kind TooLong bytes reported numbers sources names =
    option_map (λ digits. measured Digits (capped digits) (Some (pos 1)) (Some (pos 7))) (long_number_digits bytes)
measure_kind TooLarge bytes reported numbers sources names = option_map (λ magnitude. ranged Magnitude (capped magnitude)) (large_magnitude bytes)
measure_kind NegativeZero bytes reported numbers sources names = None
measure_kind FieldCount bytes reported numbers sources names = option_map measure_count numbers
measure_kind kind bytes reported numbers sources names = measure_after kind reported sources names

abbrev pub measure_reported : List ℕ → FaultySegment → Option (List ℤ) → ℕ → ℕ → Option Measure
measure_reported bytes reported numbers sources names = measure_kind reported.fault.kind bytes reported numbers sources names

-- ---- the segment

-- the first 8 of its numbers, or as many as there are
abbrev pub first_numbers : List ℤ → List ℤ
first_numbers numbers = take (min (length numbers) 8) numbers

-- how many there are beyond these
abbrev pub more_numbers : Option (List ℤ) → ℕ
more_numbers numbers = option_map_or (λ list. length list - 8) numbers 0

-- a column, from 1, where it is not before the line
abbrev pub column_from_one : ℤ → Option ℕ
column_from_one (pos column) = Some (column + 1)
column_from_one (negsuc n) = None

-- the column after the first of these numbers
abbrev pub column_after : ℕ → Option (List ℤ) → Option ℕ
column_after before numbers =
    option_and_then (λ first. column_from_one (pos before +ℤ first)) (option_and_then (λ list. slice_get list 0) numbers)

-- what is known of a segment, its text and its numbers as lists
pub record SegmentSeen : Type 0 where
  pub section : ℕ
  pub fault : Fault
  pub text : List ℕ
  pub column : Option ℕ
  pub numbers : Option (List ℤ)
  pub more : ℕ
  pub measure : Option Measure

abbrev pub segment_seen : SegmentFacts → SegmentSeen
segment_seen facts = record {
  section = facts.section;
  fault = facts.fault;
  text = string_bytes facts.text;
  column = facts.column;
  numbers = option_map (λ numbers. numbers.items) facts.numbers;
  more = facts.more;
  measure = facts.measure;
}

-- what is known of the segment of these bytes
abbrev pub facts_reported : ℕ → List ℕ → FaultySegment → ℕ → ℕ → SegmentSeen
facts_reported section bytes reported sources names = record {
  section = section;
  fault = reported.fault;
  text = front_of_text bytes;
  column = column_after reported.before.column (fields_of bytes);
  numbers = option_map first_numbers (fields_of bytes);
  more = more_numbers (fields_of bytes);
  measure = measure_reported bytes reported (fields_of bytes) sources names;
}

-- this is what is known of the text's first faulty segment
pub record IsSegmentExplained (section : ℕ) (text : List ℕ) (sources names : ℕ) (facts : SegmentFacts) : Type 0 where
  pub reported : FaultySegment
  pub is_first : IsFirstFaulty text sources names reported
  pub is_reported : segment_seen facts ≡ facts_reported section (slice_range text reported.fault.byte reported.end) reported sources names
