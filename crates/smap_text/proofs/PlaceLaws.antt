-- The three answers of a look for a column, by what the code has counted; and the characters before them.
use Rattle.std.proofs.Common.{◌≡◌, ◌+◌, ◌-◌, ◌<◌, ◌≤◌, ◌⊎◌, ⊎_elim, ℕ, List, [], ◌∷◌, ◌++◌, length, get_or, take, drop, Some, None, sum_by, refl, sym}
use Rattle.std.proofs.Common.{ap, subst, ◌∙◌, arith, add-one}
use Rattle.std.specs.Option.{option_map}
use Rattle.std.specs.Str.{IsUtf8, IsCharBoundary, chars}
use Rattle.std.proofs.lemmas.Bool.{cond-true, cond-false, le-ltb, lt-ltb, ne_eqb}
use Rattle.std.proofs.lemmas.Bool.Decides.{nat_tests}
use Rattle.std.proofs.lemmas.List.{take-append-drop, take_all}
use Rattle.std.proofs.lemmas.List.Sums.{sum_by-cons}
use Rattle.std.proofs.lemmas.Str.{chars-append, IsUtf8-take}
use Rattle.smap_text.specs.Private.Ends.{units_by_first}
use Rattle.smap_text.specs.Excerpt.{characters_before}
use Rattle.smap_text.specs.Place.{IsAt, IsInside, IsPast, IsPlace}
use Rattle.smap_text.specs.declared.place.Place.{Place}
use Rattle.smap_text.specs.declared.place.Place.TheVariants.{At, Inside}
use Rattle.smap_text.specs.Units.{units_before, units_in, units_of}
use Rattle.smap_text.proofs.UnitLaws.{all_before, character_at}

-- ---- what the code has counted

units_of_first : (b u column units : ℕ) → u ≡ units_by_first b → units ≤ column → (units ≡ column → ⊥) → column < units + u → (u ≡ 2) × (units + 1 ≡ column)
units_of_first b u column units is within other past = let most : units_by_first b ≤ 2 = grind (arith, nat_tests) in (omega arith, omega arith)

pub inside : (line bytes : List ℕ) (column at units u : ℕ) → bytes ≡ line → IsUtf8 bytes → IsCharBoundary bytes at
    → units ≡ units_before bytes at → at < length bytes
    → u ≡ units_by_first (get_or bytes at 0) → units ≤ column → (units ≡ column → ⊥) → column < units + u → IsInside line column at
inside line bytes column at units u same is_text begins counted within is most other past =
    let known = character_at bytes at (get_or bytes at 0) is_text begins within refl in
    let numbers = units_of_first (get_or bytes at 0) u column units is most other past in
    subst (λ l. IsInside l column at) same (record {
      boundary = begins;
      within = within;
      pair = known.character ∙ sym is ∙ numbers.0;
      units = ap (λ n. n + 1) (sym counted) ∙ numbers.1;
    })

pub past : (line bytes : List ℕ) (column at units : ℕ) → bytes ≡ line → at ≤ length bytes → length bytes ≤ at
    → units ≡ units_before bytes at → units ≤ column → (units ≡ column → ⊥)
    → IsPast line column units
past line bytes column at units same within end counted most other =
    subst (λ l. IsPast l column units) same (record { all = sym (counted ∙ all_before bytes at within end); fewer = omega arith })

-- ---- the characters before

one_at_least : (c : ℕ) → 1 ≤ units_of c
one_at_least c = grind (arith, nat_tests)

-- a column so many units after some characters
counted : (front back : List ℕ) (column n : ℕ) → sum_by units_of front + n ≡ column → characters_before back n ≡ Some 0
    → characters_before (front ++ back) column ≡ Some (length front)
unfolding characters_before
counted [] back column n all first = let same : n ≡ column = omega arith in ap (characters_before back) (sym same) ∙ first
counted (c ∷ front) back column n all first =
    let units : sum_by units_of (c ∷ front) ≡ units_of c + sum_by units_of front = sum_by-cons units_of c front in
    let rest : characters_before (front ++ back) (column - units_of c) ≡ Some (length front) = counted front back (column - units_of c) n (omega arith) first in
    cond-false _ _ _ (le-ltb column (units_of c) (omega arith)) ∙ ap (option_map (λ n. n + 1)) rest ∙ ap (λ n. Some n) (add-one (length front))

none_so_far : (cs : List ℕ) (column : ℕ) → sum_by units_of cs < column → characters_before cs column ≡ None
unfolding characters_before
none_so_far [] column less = cond-false _ _ _ (ne_eqb column 0 (λ e. omega arith))
none_so_far (c ∷ cs) column less =
    let units : sum_by units_of (c ∷ cs) ≡ units_of c + sum_by units_of cs = sum_by-cons units_of c cs in
    let rest : characters_before cs (column - units_of c) ≡ None = none_so_far cs (column - units_of c) (omega arith) in
    cond-false _ _ _ (le-ltb column (units_of c) (omega arith)) ∙ ap (option_map (λ n. n + 1)) rest

first_unit : (cs : List ℕ) → characters_before cs 0 ≡ Some 0
unfolding characters_before
first_unit [] = refl
first_unit (c ∷ cs) = cond-true _ _ _ (lt-ltb 0 (units_of c) (one_at_least c))

second_unit : (cs : List ℕ) → units_of (get_or cs 0 0) ≡ 2 → characters_before cs 1 ≡ Some 0
unfolding characters_before
second_unit [] never = absurd (omega arith)
second_unit (c ∷ cs) pair = cond-true _ _ _ (lt-ltb 1 (units_of c) (omega arith))

split : (line : List ℕ) (byte : ℕ) → IsUtf8 line → IsCharBoundary line byte → chars line ≡ chars (take byte line) ++ chars (drop byte line)
split line byte is_text begins = ap chars (sym (take-append-drop byte line))
    ∙ chars-append (take byte line) (drop byte line) (IsUtf8-take line byte is_text begins)

before_at : (line : List ℕ) (column byte : ℕ) → IsUtf8 line → IsAt line column byte
    → characters_before (chars line) column ≡ Some (length (chars (take byte line)))
unfolding units_before
before_at line column byte is_text at =
    ap (λ l. characters_before l column) (split line byte is_text at.boundary)
    ∙ counted (chars (take byte line)) (chars (drop byte line)) column 0 (omega (arith, at.units)) (first_unit (chars (drop byte line)))

before_inside : (line : List ℕ) (column byte : ℕ) → IsUtf8 line → IsInside line column byte
    → characters_before (chars line) column ≡ Some (length (chars (take byte line)))
unfolding units_before
before_inside line column byte is_text in_pair =
    ap (λ l. characters_before l column) (split line byte is_text in_pair.boundary)
    ∙ counted (chars (take byte line)) (chars (drop byte line)) column 1 in_pair.units (second_unit (chars (drop byte line)) in_pair.pair)

pub before_past : (line : List ℕ) (column units : ℕ) → IsPast line column units → characters_before (chars line) column ≡ None
unfolding units_before units_in
before_past line column units after =
    let whole : take (length line) line ≡ line = take_all (length line) line (omega arith) in
    let all : sum_by units_of (chars line) ≡ units = ap (λ l. sum_by units_of (chars l)) (sym whole) ∙ after.all in
    none_so_far (chars line) column (omega (arith, after.fewer))

pub before_place : (line : List ℕ) (column byte : ℕ) (place : Place) → IsUtf8 line → IsPlace line column place → (place ≡ At byte) ⊎ (place ≡ Inside byte)
    → characters_before (chars line) column ≡ Some (length (chars (take byte line)))
before_place line column byte place is_text is either = ⊎_elim
    (λ e. before_at line column byte is_text (subst (IsPlace line column) e is))
    (λ e. before_inside line column byte is_text (subst (IsPlace line column) e is))
    either
