-- Worked examples of the definitions: each holds by computing both sides.
use Rattle.std.proofs.Common.{◌≡◌, ℕ, List, [], ◌∷◌, ◌++◌, None, Some, codes, refl}
use Rattle.smap_mappings.specs.declared.mapping.Mapping.{Mapping}
use Rattle.smap_fit.specs.Fresh.{fresh}
use Rattle.smap_fit.specs.Standing.{standing_in}
use Rattle.smap_fit.specs.declared.standing.Standing.TheVariants.{Fits, PastText, InsideWord}
use Rattle.smap_fit.specs.Agreement.{agreement_in}
use Rattle.smap_fit.specs.declared.agreement.Agreement.TheVariants.{Outside, Same, Other}
use Rattle.ucd_category.proofs.Computing.{ucd_category}

-- `let ab=1` and an empty line
abbrev two_lines : List (List ℕ)
two_lines = codes "let ab=1" ∷ [] ∷ []

first_of_a_line_fits : standing_in two_lines 0 0 ≡ Fits
first_of_a_line_fits = refl

first_of_a_word_fits : standing_in two_lines 0 4 ≡ Fits
unfolding ucd_category
first_of_a_word_fits = refl

second_of_a_word_does_not : standing_in two_lines 0 5 ≡ InsideWord
unfolding ucd_category
second_of_a_word_does_not = refl

behind_a_word_fits : standing_in two_lines 0 6 ≡ Fits
unfolding ucd_category
behind_a_word_fits = refl

end_of_a_line_fits : standing_in two_lines 0 8 ≡ Fits
end_of_a_line_fits = refl

past_its_end_does_not : standing_in two_lines 0 9 ≡ PastText
past_its_end_does_not = refl

an_empty_line_has_a_place : standing_in two_lines 1 0 ≡ Fits
an_empty_line_has_a_place = refl

no_third_line : standing_in two_lines 2 0 ≡ PastText
no_third_line = refl

-- `a${b}` in a template
abbrev template : List (List ℕ)
template = codes "a${b}" ∷ []

a_substitution_begins_no_word : standing_in template 0 1 ≡ Fits
unfolding ucd_category
a_substitution_begins_no_word = refl

-- a face beyond U+FFFF stands for a pair of units, and is of no word
abbrev face : List (List ℕ)
face = (codes "a" ++ 0x1F600 ∷ codes "b") ∷ []

between_its_units_does_not : standing_in face 0 2 ≡ InsideWord
unfolding ucd_category
between_its_units_does_not = refl

behind_it_fits : standing_in face 0 3 ≡ Fits
unfolding ucd_category
behind_it_fits = refl

-- a mapping of generated column and original column, both on line 0
abbrev moved : (column original : ℕ) → Mapping
moved column original = record { line = 0; column = column; origin = Some (record { source = 0; line = 0; column = original; name = None }) }

as_far_in_both_continues : fresh (moved 0 4 ∷ moved 1 5 ∷ moved 3 7 ∷ []) ≡ moved 0 4 ∷ []
as_far_in_both_continues = refl

further_in_one_does_not : fresh (moved 0 4 ∷ moved 1 6 ∷ moved 3 8 ∷ []) ≡ moved 0 4 ∷ moved 1 6 ∷ []
further_in_one_does_not = refl

-- ---- both texts

the_same_word_is_same : agreement_in (Some (codes "ab=2")) two_lines 0 4 ≡ Same
unfolding ucd_category
the_same_word_is_same = refl

a_longer_word_is_other : agreement_in (Some (codes "abc=2")) two_lines 0 4 ≡ Other
unfolding ucd_category
a_longer_word_is_other = refl

the_same_character_is_same : agreement_in (Some (codes "=f()")) two_lines 0 6 ≡ Same
unfolding ucd_category
the_same_character_is_same = refl

an_ended_line_has_nothing : agreement_in (Some []) two_lines 1 0 ≡ Other
an_ended_line_has_nothing = refl

nothing_generated_is_other : agreement_in None two_lines 0 4 ≡ Other
unfolding ucd_category
nothing_generated_is_other = refl

past_the_content_is_outside : agreement_in (Some (codes "ab")) two_lines 0 9 ≡ Outside
past_the_content_is_outside = refl
