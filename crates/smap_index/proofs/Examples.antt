-- Worked examples of the definitions: each holds by computing both sides.
use Rattle.std.proofs.Common.{◌≡◌, ℕ, List, [], ◌∷◌, Some, None, refl, codes}
use Rattle.smap_mappings.specs.Base64.{digit_of}
use Rattle.smap_mappings.specs.Vlq.{number_of, unsigned_of}
use Rattle.smap_mappings.specs.Segment.{fields_of}
use Rattle.smap_mappings.specs.Segments.{segments_of, segments_from, segments_on}
use Rattle.smap_mappings.specs.Counts.{used_lines_of}
use Rattle.smap_mappings.specs.Mappings.{mappings_of, mapping_after, deltas_of, values_on}
use Rattle.smap_mappings.specs.declared.mapping.Mapping.{Mapping}
use Rattle.smap_index.specs.Answer.{answer_at_or_before, answer_at_or_after}
use Rattle.smap_index.specs.Parts.{placed, joined}
use Rattle.smap_index.specs.Faults.{order_fault, overlap_fault, range_fault, part_fault, build_fault}
use Rattle.smap_index.specs.declared.refusal.BuildRefusal.TheVariants.{Interval, SectionOrder, SectionOverlap, PositionRange}
use Rattle.smap_index.specs.Marks.{mark_in, marks, used_lines_in}
use Rattle.smap_index.specs.declared.part.Part.{Part}
use Rattle.smap_index.specs.declared.answer.Answer.TheVariants.{Nothing, Unmapped, Found}

-- a text alone
whole : List ℕ → List Part
whole text = record { line = 0; column = 0; text = text; source_base = 0; name_base = 0 } ∷ []

-- a text at this offset
at : ℕ → ℕ → List ℕ → Part
at line column text = record { line = line; column = column; text = text; source_base = 0; name_base = 0 }

unmapped_at : ℕ → ℕ → Mapping
unmapped_at line column = record { line = line; column = column; origin = None }

mapped_at : ℕ → ℕ → ℕ → ℕ → ℕ → Mapping
mapped_at line column source original_line original_column =
    record { line = line; column = column; origin = Some (record { source = source; line = original_line; column = original_column; name = None }) }

-- ---- parts

two_lines : joined (whole (codes "AAAA,CAAC;AACA")) ≡ mapped_at 0 0 0 0 0 ∷ mapped_at 0 1 0 0 1 ∷ mapped_at 1 0 0 1 1 ∷ []
unfolding whole mapped_at placed mappings_of mapping_after deltas_of values_on segments_of segments_from segments_on fields_of number_of unsigned_of digit_of
two_lines = refl

-- the column of an offset moves the first line alone, and the base each source
at_an_offset : joined (record { line = 2; column = 3; text = codes "AAAA,CAAC;AACA"; source_base = 5; name_base = 0 } ∷ [])
    ≡ mapped_at 2 3 5 0 0 ∷ mapped_at 2 4 5 0 1 ∷ mapped_at 3 0 5 1 1 ∷ []
unfolding mapped_at placed mappings_of mapping_after deltas_of values_on segments_of segments_from segments_on fields_of number_of unsigned_of digit_of
at_an_offset = refl

-- an offset is no wall, and each part has its own base
two_parts : joined (at 0 0 (codes "AAAA") ∷ record { line = 0; column = 10; text = codes "CAAA"; source_base = 1; name_base = 0 } ∷ [])
    ≡ mapped_at 0 0 0 0 0 ∷ mapped_at 0 11 1 0 0 ∷ []
unfolding at mapped_at placed mappings_of mapping_after deltas_of values_on segments_of segments_from segments_on fields_of number_of unsigned_of digit_of
two_parts = refl

no_wall : answer_at_or_before (joined (at 0 0 (codes "AAAA") ∷ at 0 10 (codes "CAAA") ∷ [])) 0 10
    ≡ Found 0 (record { source = 0; line = 0; column = 0; name = None })
unfolding answer_at_or_before at placed mappings_of mapping_after deltas_of values_on segments_of segments_from segments_on fields_of
    number_of unsigned_of digit_of
no_wall = refl

-- of equal columns the later part's answers
later_part_answers : answer_at_or_before (joined (at 0 0 (codes "AAAA,UAAA") ∷ at 0 10 (codes "AAEA") ∷ [])) 0 10
    ≡ Found 10 (record { source = 0; line = 2; column = 0; name = None })
unfolding answer_at_or_before at placed mappings_of mapping_after deltas_of values_on segments_of segments_from segments_on fields_of
    number_of unsigned_of digit_of
later_part_answers = refl

-- ---- faults

no_fault : build_fault (at 0 0 (codes "AAAA,UAAA") ∷ at 0 10 (codes "AAAA") ∷ []) 1 ≡ None
unfolding build_fault part_fault order_fault overlap_fault range_fault at placed mappings_of mapping_after deltas_of values_on segments_of
    segments_from segments_on fields_of number_of unsigned_of digit_of
no_fault = refl

no_fault_at_64 : build_fault (at 0 0 (codes "AAAA,UAAA") ∷ at 0 10 (codes "AAAA") ∷ []) 64 ≡ None
unfolding build_fault part_fault order_fault overlap_fault range_fault at placed mappings_of mapping_after deltas_of values_on segments_of
    segments_from segments_on fields_of number_of unsigned_of digit_of
no_fault_at_64 = refl

greatest_interval : build_fault (at 0 0 [] ∷ []) 4096 ≡ None
unfolding build_fault part_fault order_fault overlap_fault range_fault at placed mappings_of mapping_after deltas_of values_on segments_of
    segments_from segments_on fields_of number_of unsigned_of digit_of
greatest_interval = refl

-- the interval is asked first
no_interval : build_fault (at 0 10 [] ∷ at 0 0 [] ∷ []) 0 ≡ Some Interval
unfolding build_fault at
no_interval = refl

past_the_greatest_interval : build_fault (at 0 10 [] ∷ at 0 0 [] ∷ []) 4097 ≡ Some Interval
unfolding build_fault at
past_the_greatest_interval = refl

out_of_order : build_fault (at 0 10 [] ∷ at 0 10 [] ∷ at 0 9 [] ∷ []) 1 ≡ Some (SectionOrder 2)
unfolding build_fault part_fault order_fault at
out_of_order = refl

past_the_next : build_fault (at 0 0 (codes "AAAA,WAAA") ∷ at 0 10 (codes "AAAA") ∷ []) 1 ≡ Some (SectionOverlap 1)
unfolding build_fault part_fault order_fault overlap_fault at placed mappings_of mapping_after deltas_of values_on segments_of segments_from
    segments_on fields_of number_of unsigned_of digit_of
past_the_next = refl

-- the order is asked of all parts first
order_first : build_fault (at 0 0 (codes "AAAA,WAAA") ∷ at 0 10 [] ∷ at 0 9 [] ∷ []) 1 ≡ Some (SectionOrder 2)
unfolding build_fault part_fault order_fault at
order_first = refl

-- the line at its place is 2147483648
past_the_limit : build_fault (at 0 0 [] ∷ at 2147483647 0 (codes ";A") ∷ []) 1 ≡ Some (PositionRange 1)
unfolding build_fault part_fault order_fault overlap_fault range_fault at placed mappings_of mapping_after deltas_of values_on segments_of
    segments_from segments_on fields_of number_of unsigned_of digit_of
past_the_limit = refl

-- also where the part holds nothing
offset_past_the_limit : build_fault (at 0 2147483648 [] ∷ []) 1 ≡ Some (PositionRange 0)
unfolding build_fault part_fault order_fault overlap_fault range_fault at placed mappings_of mapping_after deltas_of values_on segments_of
    segments_from segments_on fields_of number_of unsigned_of digit_of
offset_past_the_limit = refl

-- ---- answers

last_on_the_line : answer_at_or_before (joined (whole (codes "AAAA,CAAC;AACA"))) 0 5 ≡ Found 1 (record { source = 0; line = 0; column = 1; name = None })
unfolding answer_at_or_before whole placed mappings_of mapping_after deltas_of values_on segments_of segments_from segments_on fields_of
    number_of unsigned_of digit_of
last_on_the_line = refl

nothing_of_nothing : answer_at_or_before [] 0 5 ≡ Nothing
unfolding answer_at_or_before
nothing_of_nothing = refl

last_of_equal_columns : answer_at_or_before (unmapped_at 0 1 ∷ mapped_at 0 1 0 7 2 ∷ []) 0 1
    ≡ Found 1 (record { source = 0; line = 7; column = 2; name = None })
unfolding answer_at_or_before unmapped_at mapped_at
last_of_equal_columns = refl

without_origin : answer_at_or_before (mapped_at 0 0 0 0 0 ∷ unmapped_at 0 4 ∷ []) 0 6 ≡ Unmapped 4
unfolding answer_at_or_before unmapped_at mapped_at
without_origin = refl

never_the_line_before : answer_at_or_before (unmapped_at 0 1 ∷ unmapped_at 1 4 ∷ []) 1 3 ≡ Nothing
unfolding answer_at_or_before unmapped_at
never_the_line_before = refl

-- ---- answers in the other direction

first_from_the_column : answer_at_or_after (joined (whole (codes "AAAA,CAAC,CAAC,CAAC,CAAC"))) 0 3
    ≡ Found 3 (record { source = 0; line = 0; column = 3; name = None })
unfolding answer_at_or_after whole placed mappings_of mapping_after deltas_of values_on segments_of segments_from segments_on fields_of
    number_of unsigned_of digit_of
first_from_the_column = refl

nothing_past_the_last : answer_at_or_after (unmapped_at 0 3 ∷ unmapped_at 1 4 ∷ []) 0 4 ≡ Nothing
unfolding answer_at_or_after unmapped_at
nothing_past_the_last = refl

-- of equal columns the first answers, and with it the earlier part
first_of_equal_columns : answer_at_or_after (joined (at 0 0 (codes "AAAA,UAAA") ∷ at 0 10 (codes "AAEA") ∷ [])) 0 1
    ≡ Found 10 (record { source = 0; line = 0; column = 0; name = None })
unfolding answer_at_or_after at placed mappings_of mapping_after deltas_of values_on segments_of segments_from segments_on fields_of
    number_of unsigned_of digit_of
first_of_equal_columns = refl

first_at_the_column : answer_at_or_after (mapped_at 0 1 0 7 2 ∷ unmapped_at 0 1 ∷ []) 0 1 ≡ Found 1 (record { source = 0; line = 7; column = 2; name = None })
unfolding answer_at_or_after unmapped_at mapped_at
first_at_the_column = refl

-- the next section's mapping answers where the one in front of it has none left
first_of_the_next_part : answer_at_or_after
    (joined (at 0 0 (codes "AAAA") ∷ record { line = 0; column = 10; text = codes "CAAA"; source_base = 1; name_base = 0 } ∷ [])) 0 1
    ≡ Found 11 (record { source = 1; line = 0; column = 0; name = None })
unfolding answer_at_or_after at placed mappings_of mapping_after deltas_of values_on segments_of segments_from segments_on fields_of
    number_of unsigned_of digit_of
first_of_the_next_part = refl

first_without_origin : answer_at_or_after (unmapped_at 0 0 ∷ unmapped_at 0 1 ∷ []) 0 1 ≡ Unmapped 1
unfolding answer_at_or_after unmapped_at
first_without_origin = refl

-- ---- checkpoints and counts

every_second : marks (whole (codes "AAAA,CAAC,C,CAAC")) 2 ≡ mark_in 0 0 ∷ mark_in 0 2 ∷ []
unfolding whole placed mappings_of mapping_after deltas_of values_on segments_of segments_from segments_on fields_of number_of unsigned_of digit_of
every_second = refl

-- equal segments are different marks
equal_segments : marks (whole (codes "AAAA,AAAA")) 1 ≡ mark_in 0 0 ∷ mark_in 0 1 ∷ []
unfolding whole placed mappings_of mapping_after deltas_of values_on segments_of segments_from segments_on fields_of number_of unsigned_of digit_of
equal_segments = refl

-- each line begins anew
every_third : marks (whole (codes "A,C,C,C;;A,C,C")) 3 ≡ mark_in 0 0 ∷ mark_in 0 3 ∷ mark_in 0 4 ∷ []
unfolding whole placed mappings_of mapping_after deltas_of values_on segments_of segments_from segments_on fields_of number_of unsigned_of digit_of
every_third = refl

-- and each part too, also where it begins on a line of the one before
every_second_of_two : marks (at 0 0 (codes "A,C,C") ∷ at 0 10 (codes "A,C,C,C") ∷ []) 2 ≡ mark_in 0 0 ∷ mark_in 0 2 ∷ mark_in 1 0 ∷ mark_in 1 2 ∷ []
unfolding at placed mappings_of mapping_after deltas_of values_on segments_of segments_from segments_on fields_of number_of unsigned_of digit_of
every_second_of_two = refl

two_used_lines : used_lines_in (whole (codes "A,C;;A,C,C")) ≡ 2
unfolding whole used_lines_of deltas_of values_on segments_of segments_from segments_on fields_of number_of unsigned_of digit_of
two_used_lines = refl
