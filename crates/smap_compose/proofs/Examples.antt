-- Worked examples of the definitions: each holds by computing both sides.
use Rattle.std.proofs.Common.{◌≡◌, ℕ, List, [], ◌∷◌, Option, Some, None, refl}
use Rattle.smap_mappings.specs.declared.mapping.Mapping.{Mapping}
use Rattle.smap_index.specs.Answer.{answer_at_or_before}
use Rattle.smap_compose.specs.Follow.{CountedMappings, followed}

mapped_at : ℕ → ℕ → ℕ → ℕ → ℕ → Option ℕ → Mapping
mapped_at line column source original_line original_column name =
    record { line = line; column = column; origin = Some (record { source = source; line = original_line; column = original_column; name = name }) }

unmapped_at : ℕ → ℕ → Mapping
unmapped_at line column = record { line = line; column = column; origin = None }

-- mappings of one source, and of this many names
of_one_source : ℕ → List Mapping → CountedMappings
of_one_source names mappings = record { mappings = mappings; sources = 1; names = names }

-- mappings of two sources
of_two_sources : ℕ → List Mapping → CountedMappings
of_two_sources names mappings = record { mappings = mappings; sources = 2; names = names }

-- the second asks at column 5, where the mapping at column 3 answers
both_are_followed :
    followed (of_one_source 0 (mapped_at 0 0 0 0 0 None ∷ mapped_at 0 5 0 0 5 None ∷ [])) 0
    (of_one_source 0 (mapped_at 0 0 0 0 0 None ∷ mapped_at 0 3 0 1 4 None ∷ []))
    ≡ of_two_sources 0 (mapped_at 0 0 1 0 0 None ∷ mapped_at 0 5 1 1 4 None ∷ [])
unfolding answer_at_or_before of_one_source of_two_sources mapped_at
both_are_followed = refl

-- the inner map begins after where the first asks
first_is_lost :
    followed (of_one_source 0 (mapped_at 0 0 0 0 0 None ∷ mapped_at 0 5 0 0 5 None ∷ [])) 0
    (of_one_source 0 (mapped_at 0 3 0 1 4 None ∷ []))
    ≡ of_two_sources 0 (unmapped_at 0 0 ∷ mapped_at 0 5 1 1 4 None ∷ [])
unfolding answer_at_or_before of_one_source of_two_sources mapped_at unmapped_at
first_is_lost = refl

-- the inner mapping has no name: the outer's stays
outer_name_stays :
    followed (of_one_source 1 (mapped_at 0 0 0 0 0 (Some 0) ∷ [])) 0 (of_one_source 0 (mapped_at 0 0 0 0 0 None ∷ []))
    ≡ of_two_sources 1 (mapped_at 0 0 1 0 0 (Some 0) ∷ [])
unfolding answer_at_or_before of_one_source of_two_sources mapped_at
outer_name_stays = refl

-- it has one: that is taken, after the outer's names
inner_name_is_taken :
    followed (of_one_source 1 (mapped_at 0 0 0 0 0 (Some 0) ∷ [])) 0 (of_one_source 1 (mapped_at 0 0 0 0 0 (Some 0) ∷ []))
    ≡ of_two_sources 2 (mapped_at 0 0 1 0 0 (Some 1) ∷ [])
unfolding answer_at_or_before of_one_source of_two_sources mapped_at
inner_name_is_taken = refl

-- the inner map has nothing there, or a mapping without an origin: no origin is left
nothing_there :
    followed (of_one_source 1 (mapped_at 0 0 0 0 0 (Some 0) ∷ [])) 0 (of_one_source 0 (mapped_at 1 0 0 0 0 None ∷ []))
    ≡ of_two_sources 1 (unmapped_at 0 0 ∷ [])
unfolding answer_at_or_before of_one_source of_two_sources mapped_at unmapped_at
nothing_there = refl

unmapped_there :
    followed (of_one_source 0 (mapped_at 0 0 0 0 7 None ∷ [])) 0 (of_one_source 0 (mapped_at 0 0 0 0 0 None ∷ unmapped_at 0 3 ∷ []))
    ≡ of_two_sources 0 (unmapped_at 0 0 ∷ [])
unfolding answer_at_or_before of_one_source of_two_sources mapped_at unmapped_at
unmapped_there = refl

-- a mapping of another source stays, and so does one without an origin; equal ones stay two
others_stay :
    followed (of_one_source 0 (unmapped_at 0 0 ∷ mapped_at 0 1 0 3 3 None ∷ mapped_at 0 1 0 3 3 None ∷ [])) 1 (of_one_source 0 (mapped_at 0 0 0 0 0 None ∷ []))
    ≡ of_two_sources 0 (unmapped_at 0 0 ∷ mapped_at 0 1 0 3 3 None ∷ mapped_at 0 1 0 3 3 None ∷ [])
unfolding answer_at_or_before of_one_source of_two_sources mapped_at unmapped_at
others_stay = refl
