-- Worked examples of the definitions: each holds by computing both sides.
use Rattle.std.proofs.Common.{◌≡◌, ℕ, List, [], ◌∷◌, ◌++◌, Some, None, ap, arith, length, refl, codes, map}
use Rattle.std.specs.Str.{chars, encode_utf8_all}
use Rattle.smap_text.specs.Begins.{BeginsAt}
use Rattle.smap_text.specs.Excerpt.{characters_before, excerpt_of}
use Rattle.smap_text.specs.Lines.{lines_of}
use Rattle.smap_text.specs.Units.{units_before, units_in}
use lib.Utf8.{encode}

-- ---- lines

an_empty_text_has_a_line : lines_of [] ≡ [] ∷ []
unfolding lines_of
an_empty_text_has_a_line = refl

a_last_line_may_be_empty : lines_of (codes "a" ++ 0x0A ∷ []) ≡ codes "a" ∷ [] ∷ []
unfolding lines_of
a_last_line_may_be_empty = refl

cr_lf_is_one_end : lines_of (codes "a" ++ 0x0D ∷ 0x0A ∷ codes "b") ≡ codes "a" ∷ codes "b" ∷ []
unfolding lines_of
cr_lf_is_one_end = refl

lf_cr_is_two_ends : lines_of (codes "a" ++ 0x0A ∷ 0x0D ∷ codes "b") ≡ codes "a" ∷ [] ∷ codes "b" ∷ []
unfolding lines_of
lf_cr_is_two_ends = refl

cr_cr_is_two_ends : lines_of (codes "a" ++ 0x0D ∷ 0x0D ∷ codes "b") ≡ codes "a" ∷ [] ∷ codes "b" ∷ []
unfolding lines_of
cr_cr_is_two_ends = refl

separators_end_lines : lines_of (codes "a" ++ 0x2028 ∷ codes "b" ++ 0x2029 ∷ []) ≡ codes "a" ∷ codes "b" ∷ [] ∷ []
unfolding lines_of
separators_end_lines = refl

other_spaces_do_not : lines_of (0x0B ∷ 0x0C ∷ 0x85 ∷ 0x2027 ∷ 0x202A ∷ []) ≡ (0x0B ∷ 0x0C ∷ 0x85 ∷ 0x2027 ∷ 0x202A ∷ []) ∷ []
unfolding lines_of
other_spaces_do_not = refl

-- ---- where lines begin

an_empty_line_begins_at_the_end : BeginsAt (codes "a" ++ 0x0A ∷ []) 1 2
unfolding lines_of chars
an_empty_line_begins_at_the_end = record { boundary = (omega arith, λ below. absurd (omega arith)); before = refl; behind = refl }

and_not_behind_it : BeginsAt (codes "a" ++ 0x0A ∷ []) 1 1000 → ⊥
and_not_behind_it begins = let within = begins.boundary.0 in omega arith

no_line_begins_between_cr_and_lf : BeginsAt (0x0D ∷ 0x0A ∷ codes "b") 0 1 → ⊥
unfolding lines_of chars
no_line_begins_between_cr_and_lf begins = let before = ap length begins.before in absurd (omega arith)

nor_behind_another_end : BeginsAt (codes "a" ++ 0x0A ∷ 0x0D ∷ 0x0A ∷ codes "b") 2 3 → ⊥
unfolding lines_of chars
nor_behind_another_end begins = let behind = ap length begins.behind in absurd (omega arith)

-- ---- units

-- `let `, a face beyond U+FFFF, and `x`
abbrev face : List ℕ
face = codes "let " ++ 0x1F600 ∷ codes "x"

abbrev face_bytes : List ℕ
face_bytes = codes "let " ++ 0xF0 ∷ 0x9F ∷ 0x98 ∷ 0x80 ∷ codes "x"

four_units_before_a_pair : units_before face_bytes 4 ≡ 4
unfolding units_before chars
four_units_before_a_pair = refl

six_after_it : units_before face_bytes 8 ≡ 6
unfolding units_before chars
six_after_it = refl

seven_in_all : units_in face_bytes ≡ 7
unfolding units_in units_before chars
seven_in_all = refl

one_below_ffff : units_in (encode_utf8_all (0x7F ∷ 0x80 ∷ 0x7FF ∷ 0x800 ∷ 0xFFFF ∷ [])) ≡ 5
unfolding units_in units_before chars encode
one_below_ffff = refl

two_from_10000 : units_in (encode_utf8_all (0x10000 ∷ 0x10FFFF ∷ [])) ≡ 4
unfolding units_in units_before chars encode
two_from_10000 = refl

-- ---- excerpts

both_units_are_of_one_character : map (characters_before face) (4 ∷ 5 ∷ 6 ∷ 7 ∷ 8 ∷ []) ≡ Some 4 ∷ Some 4 ∷ Some 5 ∷ Some 6 ∷ None ∷ []
unfolding characters_before
both_units_are_of_one_character = refl

a_caret_under_the_third : excerpt_of (codes "a" ++ 0x09 ∷ codes "b") 0 2 ≡ Some (codes "a b" ++ 0x0A ∷ codes "  ^")
unfolding characters_before lines_of chars encode
a_caret_under_the_third = refl

controls_are_marks : excerpt_of (codes "x" ++ 0x0A ∷ 0x00 ∷ 0x1F ∷ 0x7F ∷ codes "~") 1 0 ≡ Some (codes "???~" ++ 0x0A ∷ codes "^")
unfolding characters_before lines_of chars encode
controls_are_marks = refl

no_such_line : excerpt_of (codes "a" ++ 0x0A ∷ []) 2 0 ≡ None
unfolding characters_before lines_of chars encode
no_such_line = refl

no_such_column : excerpt_of (codes "a") 0 2 ≡ None
unfolding characters_before lines_of chars encode
no_such_column = refl
