-- How a place stands in a line, character by character.
use Rattle.std.proofs.Common.{◌≡◌, ◌+◌, ◌-◌, ◌<◌, ◌==◌, ℕ, Bool, true, false, cond, List, [], ◌∷◌, ◌++◌, Option, None, Some, nat_lt, zero-add, refl, sym, ap, ◌∙◌, arith}
use Rattle.std.specs.List.{last_or, sum_by}
use Rattle.std.specs.Option.{option_map_or}
use Rattle.std.proofs.lemmas.Bool.{cond-false}
use Rattle.std.proofs.lemmas.Bool.Decides.{nat_tests}
use Rattle.std.proofs.lemmas.List.Sums.{sum_by-cons}
use Rattle.smap_text.specs.Units.{units_of}
use Rattle.smap_fit.specs.Private.Places.{IsLeft}
use Rattle.smap_fit.specs.Standing.{IsAtStart, goes_on, left_on, standing_in, standing_on}
use Rattle.smap_fit.specs.declared.standing.Standing.TheVariants.{Fits, PastText, InsideWord}

-- ---- past a character

pub some_units : (c : ℕ) → 0 < units_of c
some_units c = one_or_two (nat_lt c 0x10000)
  where
    one_or_two : (b : Bool) → 0 < cond b 1 2
    one_or_two true = omega arith
    one_or_two false = omega arith

not_at : (u units : ℕ) → 0 < u → (u + units == 0) ≡ false
not_at u units some = grind (arith, nat_tests)

not_within : (u units : ℕ) → nat_lt (u + units) u ≡ false
not_within u units = grind (arith, nat_tests)

more : (u units : ℕ) → u + units - u ≡ units
more u units = omega arith

-- behind a character the rest of the line decides
pub stepped : (before : Option ℕ) (c : ℕ) (left : List ℕ) (units : ℕ) → standing_on before (c ∷ left) (units_of c + units) ≡ standing_on (Some c) left units
stepped before c left units =
    cond-false _ _ _ (not_at (units_of c) units (some_units c)) ∙ cond-false _ _ _ (not_within (units_of c) units)
    ∙ ap (standing_on (Some c) left) (more (units_of c) units)

stepped_text : (c : ℕ) (left : List ℕ) (units : ℕ) → left_on (c ∷ left) (units_of c + units) ≡ left_on left units
stepped_text c left units =
    cond-false _ _ _ (not_at (units_of c) units (some_units c)) ∙ cond-false _ _ _ (not_within (units_of c) units)
    ∙ ap (left_on left) (more (units_of c) units)

-- at a line's start all of it is left
pub started : (line : List ℕ) → IsLeft line 0 None line
started line = record { standing = λ units. ap (standing_on None line) (zero-add units); text = λ units. ap (left_on line) (zero-add units) }

pub passed : (whole : List ℕ) (column : ℕ) (before : Option ℕ) (c : ℕ) (left : List ℕ) → IsLeft whole column before (c ∷ left)
    → IsLeft whole (column + units_of c) (Some c) left
passed whole column before c left is = record {
  standing = λ units. ap (standing_on None whole) (sum3 column (units_of c) units) ∙ is.standing (units_of c + units) ∙ stepped before c left units;
  text = λ units. ap (left_on whole) (sum3 column (units_of c) units) ∙ is.text (units_of c + units) ∙ stepped_text c left units;
}
  where
    sum3 : (a b c : ℕ) → a + b + c ≡ a + (b + c)
    sum3 a b c = omega arith

-- ---- at a place

module _ (whole : List ℕ) (at column : ℕ) (before : Option ℕ) (left : List ℕ) where
  here : (units : ℕ) → IsLeft whole at before left → at + units ≡ column → standing_on None whole column ≡ standing_on before left units
  here units is same = ap (standing_on None whole) (sym same) ∙ is.standing units

  here_text : (units : ℕ) → IsLeft whole at before left → at + units ≡ column → left_on whole column ≡ left_on left units
  here_text units is same = ap (left_on whole) (sym same) ∙ is.text units

  pub ended : IsLeft whole at before left → left ≡ [] → at < column → PastText ≡ standing_on None whole column
  ended is none past =
      let some : (column - at == 0) ≡ false = grind (arith, nat_tests) in
      sym (here (column - at) is (omega arith) ∙ ap (λ l. standing_on before l (column - at)) none ∙ cond-false _ _ _ some)

  pub ended_text : IsLeft whole at before left → left ≡ [] → at < column → None ≡ left_on whole column
  ended_text is none past =
      let some : (column - at == 0) ≡ false = grind (arith, nat_tests) in
      sym (here_text (column - at) is (omega arith) ∙ ap (λ l. left_on l (column - at)) none ∙ cond-false _ _ _ some)

  pub between_units : (c : ℕ) (rest : List ℕ) → IsLeft whole at before left → left ≡ c ∷ rest → at < column → column - at < units_of c
      → InsideWord ≡ standing_on None whole column
  between_units c rest is first past within =
      let some : (column - at == 0) ≡ false = grind (arith, nat_tests) in
      sym (here (column - at) is (omega arith) ∙ ap (λ l. standing_on before l (column - at)) first ∙ cond-false _ _ _ some
      ∙ inside (column - at) (units_of c) within)
    where
      inside : (n u : ℕ) → n < u → cond (nat_lt n u) InsideWord (standing_on (Some c) rest (n - u)) ≡ InsideWord
      inside n u less = let is_less : nat_lt n u ≡ true = grind (arith, nat_tests) in rw is_less refl

  pub between_units_text : (c : ℕ) (rest : List ℕ) → IsLeft whole at before left → left ≡ c ∷ rest → at < column → column - at < units_of c
      → None ≡ left_on whole column
  between_units_text c rest is first past within =
      let some : (column - at == 0) ≡ false = grind (arith, nat_tests) in
      sym (here_text (column - at) is (omega arith) ∙ ap (λ l. left_on l (column - at)) first ∙ cond-false _ _ _ some
      ∙ inside (column - at) (units_of c) within)
    where
      inside : (n u : ℕ) → n < u → cond (nat_lt n u) None (left_on rest (n - u)) ≡ None
      inside n u less = let is_less : nat_lt n u ≡ true = grind (arith, nat_tests) in rw is_less refl

  pub reached_text : IsLeft whole at before left → at ≡ column → Some left ≡ left_on whole column
  reached_text is same = sym (here_text 0 is (omega arith) ∙ all left)
    where
      all : (left : List ℕ) → left_on left 0 ≡ Some left
      all [] = refl
      all (c ∷ left) = refl

  pub reached : IsLeft whole at before left → at ≡ column → standing_on None whole column ≡ cond (goes_on before left) InsideWord Fits
  reached is same = here 0 is (omega arith) ∙ first left
    where
      first : (left : List ℕ) → standing_on before left 0 ≡ cond (goes_on before left) InsideWord Fits
      first [] = refl
      first (c ∷ left) = refl

-- ---- where a word starts

fits_behind : (last : Option ℕ) (before after : List ℕ) → goes_on (last_or last before) after ≡ false
    → standing_on last (before ++ after) (sum_by units_of before) ≡ Fits
fits_behind last [] [] apart = refl
fits_behind last [] (c ∷ after) apart = cond-false (goes_on last (c ∷ after)) InsideWord Fits apart
fits_behind last (b ∷ before) after apart =
    ap (standing_on last (b ∷ (before ++ after))) (sum_by-cons units_of b before)
    ∙ stepped last b (before ++ after) (sum_by units_of before) ∙ fits_behind (Some b) before after apart

pub fits_at_start : (lines : List (List ℕ)) (line column : ℕ) → IsAtStart lines line column → standing_in lines line column ≡ Fits
fits_at_start lines line column at =
    ap (λ o. option_map_or (λ characters. standing_on None characters column) o PastText) at.whole
    ∙ ap (standing_on None (at.before ++ at.after)) (sym at.units) ∙ fits_behind None at.before at.after at.apart
