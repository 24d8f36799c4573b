-- Worked examples of the definitions: each holds by computing both sides.
use Rattle.std.proofs.Common.{◌≡◌, ℕ, List, [], ◌∷◌, Bool, true, false, Some, None, Ok, Err, Option, Result, refl, codes}
use Rattle.std.specs.Prelude.{ℤ, pos, negsuc}
use Rattle.smap_mappings.specs.Base64.{digit_of}
use Rattle.smap_mappings.specs.Vlq.{number_of, number_at, unsigned_of}
use Rattle.smap_mappings.specs.Segment.{fields_of}
use Rattle.smap_mappings.specs.Segments.{segments_of, segments_from, segments_on}
use Rattle.smap_mappings.specs.Mappings.{mappings_of, mapping_after, deltas_of, values_on}
use Rattle.smap_mappings.specs.Accepted.{is_accepted, is_accepted_after}
use Rattle.smap_mappings.specs.Faults.{first_faulty, first_fault, spelling_fault, delta_fault}
use Rattle.smap_mappings.specs.Private.Reading.{checked_number}
use Rattle.smap_mappings.specs.declared.fault.Fault.{Fault}
use Rattle.smap_mappings.specs.declared.fault.FaultKind.{FaultKind}
use Rattle.smap_mappings.specs.declared.fault.FaultKind.TheVariants as kinds
use Rattle.smap_mappings.specs.declared.vlq.VlqFault.{VlqFault}
use Rattle.smap_mappings.specs.declared.vlq.VlqFault.TheVariants.{BadDigit, Unended, TooLong, TooLarge, NegativeZero}
use Rattle.smap_mappings.specs.declared.mapping.Origin.{Origin}
use Rattle.smap_mappings.specs.declared.mapping.Mapping.{Mapping}
use Rattle.smap_mappings.specs.Canonical.{canonical_text, segment_bytes, fields_after, shortest_spelling}
use Rattle.smap_mappings.specs.Encode.{list_fault}
use Rattle.smap_mappings.specs.declared.canonical.EncodeRefusal.TheVariants.{NotSorted, OutOfRange}

-- ---- numbers and their shortest spellings

zero_is_A : number_of (codes "A") ≡ Some (pos 0)
unfolding number_of unsigned_of digit_of
zero_is_A = refl

one_is_C : number_of (codes "C") ≡ Some (pos 1)
unfolding number_of unsigned_of digit_of
one_is_C = refl

minus_one_is_D : number_of (codes "D") ≡ Some (negsuc 0)
unfolding number_of unsigned_of digit_of
minus_one_is_D = refl

sixteen_is_gB : number_of (codes "gB") ≡ Some (pos 16)
unfolding number_of unsigned_of digit_of
sixteen_is_gB = refl

minus_sixteen_is_hB : number_of (codes "hB") ≡ Some (negsuc 15)
unfolding number_of unsigned_of digit_of
minus_sixteen_is_hB = refl

greatest_number : number_of (codes "+/////D") ≡ Some (pos 2147483647)
unfolding number_of unsigned_of digit_of
greatest_number = refl

least_number : number_of (codes "//////D") ≡ Some (negsuc 2147483646)
unfolding number_of unsigned_of digit_of
least_number = refl

longer_zero : number_of (codes "gA") ≡ Some (pos 0)
unfolding number_of unsigned_of digit_of
longer_zero = refl

negative_zero : number_of (codes "B") ≡ None
unfolding number_of unsigned_of digit_of
negative_zero = refl

longer_negative_zero : number_of (codes "hA") ≡ None
unfolding number_of unsigned_of digit_of
longer_negative_zero = refl

abbrev readings : List (List ℕ) → List (Result (ℤ × ℕ) VlqFault)
readings [] = []
readings (bytes ∷ more) = number_at bytes 0 ∷ readings more

faults_in_order : readings (codes "ggggggE" ∷ codes "gggggggA" ∷ codes "gggggggg" ∷ codes "gggggggg!" ∷ [] ∷ codes "hA" ∷ codes "g!" ∷ [])
    ≡ Err TooLarge ∷ Err TooLong ∷ Err Unended ∷ Err BadDigit ∷ Err Unended ∷ Err NegativeZero ∷ Err BadDigit ∷ []
unfolding number_at checked_number unsigned_of digit_of
faults_in_order = refl

reads_at_a_place : number_at (codes "AAgBA") 2 ≡ Ok (pos 16, 4)
unfolding number_at checked_number unsigned_of digit_of
reads_at_a_place = refl

-- ---- texts

segments_skip_the_empty : segments_of (codes ";,,;AAAA,B")
    ≡ record { line = 2; place = 4; bytes = codes "AAAA" } ∷ record { line = 2; place = 9; bytes = codes "B" } ∷ []
unfolding segments_of segments_from segments_on
segments_skip_the_empty = refl

abbrev from_source : ℕ → ℕ → ℕ → Option ℕ → Option Origin
from_source source line column name = Some (record { source = source; line = line; column = column; name = name })

two_lines : mappings_of (codes "AAAA,CAAC;AACA")
    ≡ record { line = 0; column = 0; origin = from_source 0 0 0 None } ∷ record { line = 0; column = 1; origin = from_source 0 0 1 None }
    ∷ record { line = 1; column = 0; origin = from_source 0 1 1 None } ∷ []
unfolding mappings_of mapping_after values_on deltas_of segments_of segments_from segments_on fields_of number_of unsigned_of digit_of
two_lines = refl

source_and_name_run_on : mappings_of (codes "ACAAC;AAAAA")
    ≡ record { line = 0; column = 0; origin = from_source 1 0 0 (Some 1) } ∷ record { line = 1; column = 0; origin = from_source 1 0 0 (Some 1) } ∷ []
unfolding mappings_of mapping_after values_on deltas_of segments_of segments_from segments_on fields_of number_of unsigned_of digit_of
source_and_name_run_on = refl

one_field_keeps_the_origin : mappings_of (codes "AAAA,CAAC,C,CAAC")
    ≡ record { line = 0; column = 0; origin = from_source 0 0 0 None } ∷ record { line = 0; column = 1; origin = from_source 0 0 1 None }
    ∷ record { line = 0; column = 2; origin = None } ∷ record { line = 0; column = 3; origin = from_source 0 0 2 None } ∷ []
unfolding mappings_of mapping_after values_on deltas_of segments_of segments_from segments_on fields_of number_of unsigned_of digit_of
one_field_keeps_the_origin = refl

abbrev verdicts : List (List ℕ) → List Bool
verdicts [] = []
verdicts (text ∷ texts) = is_accepted text 2147483648 2147483648 ∷ verdicts texts

accepted : verdicts (codes "AAAA,CAAC;AACA" ∷ [] ∷ codes "+/////D" ∷ codes "A,A,A" ∷ codes "ACAAC;AAAAA" ∷ codes ";,,;AAAA" ∷ [])
    ≡ true ∷ true ∷ true ∷ true ∷ true ∷ true ∷ []
unfolding is_accepted is_accepted_after values_on deltas_of segments_of segments_from segments_on fields_of number_of unsigned_of digit_of
accepted = refl

refused : verdicts (codes "+/////D,C" ∷ codes "ggggggE" ∷ codes "B" ∷ codes "Ag" ∷ codes "AA" ∷ codes "A!A" ∷ codes "CAAA,DAAA"
    ∷ codes "DAAA" ∷ []) ≡ false ∷ false ∷ false ∷ false ∷ false ∷ false ∷ false ∷ false ∷ []
unfolding is_accepted is_accepted_after values_on deltas_of segments_of segments_from segments_on fields_of number_of unsigned_of digit_of
refused = refl

one_source_one_name : is_accepted (codes "ACAAC") 1 2 ≡ false
unfolding is_accepted is_accepted_after values_on deltas_of segments_of segments_from segments_on fields_of number_of unsigned_of digit_of
one_source_one_name = refl

-- ---- first faults

abbrev at_byte : ℕ → ℕ → FaultKind → Option Fault
at_byte byte line kind = Some (record { byte = byte; line = line; kind = kind })

abbrev faults : List (List ℕ) → List (Option Fault)
faults [] = []
faults (text ∷ texts) = first_fault text 1 1 ∷ faults texts

first_faults : faults (codes "B!AA" ∷ codes "gggggggAg" ∷ codes "ggggggEB" ∷ codes "BA" ∷ codes "AAAA,DAAA" ∷ codes "ACAAC" ∷ codes "AAAAC"
    ∷ codes "A,DAAA,B" ∷ codes ";,,;AAAA,B" ∷ [])
    ≡ at_byte 0 0 kinds.BadDigit ∷ at_byte 0 0 kinds.Unended ∷ at_byte 0 0 kinds.TooLarge ∷ at_byte 0 0 kinds.NegativeZero
    ∷ at_byte 5 0 kinds.Negative ∷ at_byte 0 0 kinds.SourceIndex ∷ at_byte 0 0 kinds.NameIndex ∷ at_byte 2 0 kinds.Negative
    ∷ at_byte 9 2 kinds.NegativeZero ∷ []
unfolding first_fault first_faulty spelling_fault delta_fault values_on segments_of segments_from segments_on fields_of number_of unsigned_of digit_of
first_faults = refl

more_faults : faults (codes "AA" ∷ codes "CAAA,DAAA" ∷ codes "+/////D,C" ∷ codes "gggggggA" ∷ codes "A,A,A" ∷ [])
    ≡ at_byte 0 0 kinds.FieldCount ∷ at_byte 5 0 kinds.ColumnFalls ∷ at_byte 8 0 kinds.PastLimit ∷ at_byte 0 0 kinds.TooLong ∷ None ∷ []
unfolding first_fault first_faulty spelling_fault delta_fault values_on segments_of segments_from segments_on fields_of number_of unsigned_of digit_of
more_faults = refl

-- ---- canonical texts

abbrev unmapped_at : ℕ → ℕ → Mapping
unmapped_at line column = record { line = line; column = column; origin = None }

abbrev mapped_at : ℕ → ℕ → ℕ → ℕ → ℕ → Mapping
mapped_at line column source original_line original_column =
    record { line = line; column = column; origin = Some (record { source = source; line = original_line; column = original_column; name = None }) }

none_is_empty : canonical_text [] ≡ []
unfolding canonical_text
none_is_empty = refl

equal_mappings_stay : canonical_text (unmapped_at 0 0 ∷ unmapped_at 0 0 ∷ []) ≡ codes "A,A"
unfolding canonical_text segment_bytes fields_after shortest_spelling
equal_mappings_stay = refl

lines_are_passed : canonical_text (unmapped_at 2 5 ∷ []) ≡ codes ";;K"
unfolding canonical_text segment_bytes fields_after shortest_spelling
lines_are_passed = refl

origins_differ_from_the_last_one : canonical_text (mapped_at 0 0 0 0 0 ∷ unmapped_at 0 1 ∷ mapped_at 0 2 0 0 2 ∷ []) ≡ codes "AAAA,C,CAAE"
unfolding canonical_text segment_bytes fields_after shortest_spelling
origins_differ_from_the_last_one = refl

sources_are_differences : canonical_text (mapped_at 0 0 0 0 0 ∷ mapped_at 0 10 1 0 0 ∷ []) ≡ codes "AAAA,UCAA"
unfolding canonical_text segment_bytes fields_after shortest_spelling
sources_are_differences = refl

greatest_is_spelled : shortest_spelling (pos 2147483647) ≡ codes "+/////D"
unfolding shortest_spelling
greatest_is_spelled = refl

least_is_spelled : shortest_spelling (negsuc 2147483646) ≡ codes "//////D"
unfolding shortest_spelling
least_is_spelled = refl

-- ---- why a list is not encoded

order_is_asked_before_range : list_fault (unmapped_at 0 5 ∷ mapped_at 0 4 2147483648 0 0 ∷ []) ≡ Some (NotSorted 1)
unfolding list_fault
order_is_asked_before_range = refl

first_past_the_limit : list_fault (unmapped_at 0 2147483648 ∷ unmapped_at 0 0 ∷ []) ≡ Some (OutOfRange 0)
unfolding list_fault
first_past_the_limit = refl
