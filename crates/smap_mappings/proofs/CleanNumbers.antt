-- The numbers of a clean segment, one after another as the code reads them.
use Rattle.std.proofs.Common.{◌≡◌, ℕ, ◌+◌, ◌-◌, ◌/◌, ◌<◌, suc, zero, Bool, true, false, not, ◌||◌, cond, List, [], ◌∷◌, length, get_or, take, drop}
use Rattle.std.proofs.Common.{Result, Ok, Err, refl, sym, ap, subst, ◌∙◌, arith, length-drop, length-take-le, get_or-take, ltb-true, ne_eqb, add-one}
use Rattle.std.specs.Prelude.{ℤ, slice_range}
use Rattle.std.proofs.lemmas.List.{drop_more, drop-drop}
use Rattle.std.specs.List.{list_any, prefix_len}
use Rattle.std.proofs.lemmas.Bool.{cond-false}
use Rattle.std.proofs.Math.Bool.{or_assoc}
use Rattle.smap_mappings.specs.Limits.{limit}
use Rattle.smap_mappings.specs.Vlq.{is_digit, is_continuing, is_ending, unsigned_of, signed_number, is_too_long, is_too_large, is_negative_zero, number_at}
use Rattle.smap_mappings.specs.Segment.{cuts_of}
use Rattle.smap_mappings.specs.Faults.{is_unended}
use Rattle.smap_mappings.specs.Private.Reading.{front_at}
use Rattle.smap_mappings.specs.Private.Spelling.{IsClean}
use Rattle.smap_mappings.specs.declared.vlq.VlqFault.{VlqFault}
use Rattle.smap_mappings.specs.declared.vlq.VlqFault.TheVariants.{TooLong, TooLarge, NegativeZero}
use Rattle.smap_mappings.proofs.SpelledNumbers.{ends_is_digit, one_number_last}
use Rattle.smap_mappings.proofs.SpellingFaultLaws.{CleanFront, clean_front, clean_cuts}

-- the last byte decides whether the segment is ended
pub unended_last : (bytes : List ℕ) (n : ℕ) → length bytes ≡ suc n → is_unended bytes ≡ is_continuing (get_or bytes n 0)
unended_last [] n is = absurd (cc)
unended_last (b ∷ []) n is = let is_zero : 0 ≡ n = omega arith in ap (λ i. is_continuing (get_or (b ∷ []) i 0)) is_zero
unended_last (b ∷ c ∷ bytes) zero is = absurd (omega arith)
unended_last (b ∷ c ∷ bytes) (suc n) is = unended_last (c ∷ bytes) n (omega arith)

-- ---- the number at a place

-- what reading one number gives
abbrev pub reading_of : List ℕ → ℕ → Result (ℤ × ℕ) VlqFault
reading_of digits end =
    cond (is_too_long digits) (Err TooLong) (cond (is_too_large digits) (Err TooLarge)
    (cond (is_negative_zero digits) (Err NegativeZero) (Ok (signed_number (unsigned_of digits), end))))

-- the place after the number that begins at a place, and its digits
abbrev pub end_of : List ℕ → ℕ → ℕ
end_of segment place = place + front_at segment place + 1

abbrev pub digits_at : List ℕ → ℕ → List ℕ
digits_at segment place = slice_range segment place (end_of segment place)

-- the number that begins at a place of a clean segment
pub record NumberAt (segment : List ℕ) (place : ℕ) : Type 0 where
  pub inside : place + front_at segment place < length segment
  pub cuts : cuts_of (drop place segment) ≡ digits_at segment place ∷ cuts_of (drop (end_of segment place) segment)
  pub rest : IsClean (drop (end_of segment place) segment)
  pub reading : number_at segment place ≡ reading_of (digits_at segment place) (end_of segment place)

-- a clean front ends in a digit
front_ends : (bytes : List ℕ) (front : CleanFront bytes) → is_digit (get_or bytes (prefix_len is_continuing bytes) 0) ≡ true
front_ends bytes front =
    let n = prefix_len is_continuing bytes in
    let counted : length (take (suc n) bytes) ≡ suc n = length-take-le (suc n) bytes (omega (arith, front.inside)) in
    ends_is_digit _ (ap is_ending (sym (get_or-take (suc n) bytes n 0 (omega arith))) ∙ one_number_last (take (suc n) bytes) front.one n counted)

pub number_at_place : (segment : List ℕ) (place : ℕ) → place < length segment → IsClean (drop place segment) → NumberAt segment place
unfolding number_at
number_at_place segment place within clean =
    let is = drop_more segment place 0 within in
    let front : CleanFront (drop place segment) =
    subst CleanFront (sym is) (clean_front (get_or segment place 0) (drop (place + 1) segment) (subst IsClean is clean)) in
    let n = front_at segment place in
    let next : place + suc n ≡ place + n + 1 = omega arith in
    let after : drop (suc n) (drop place segment) ≡ drop (place + n + 1) segment = drop-drop (suc n) place segment ∙ ap (λ i. drop i segment) next in
    let long : place + n + 1 - place ≡ suc n = omega arith in
    let cut : take (suc n) (drop place segment) ≡ digits_at segment place = ap (λ k. take k (drop place segment)) (sym long) in
    record {
      inside = omega (arith, front.inside, length-drop place segment);
      cuts = clean_cuts (drop place segment) front ∙ (λ i. cut i ∷ cuts_of (after i));
      rest = subst IsClean after front.rest;
      reading =
          cond-false _ _ _ (ne_eqb n (length (drop place segment)) (λ e. absurd (omega (arith, front.inside))))
          ∙ cond-false _ _ _ (ap not (front_ends (drop place segment) front))
          ∙ ap (λ digits. reading_of digits (end_of segment place)) (ap (λ k. take k (drop place segment)) (add-one n) ∙ cut);
    }

module _ (segment : List ℕ) (place : ℕ) (number : NumberAt segment place) where
  -- a test of the numbers from the place on is a test of the first and of the others
  pub any_number : (p : List ℕ → Bool) → list_any p (cuts_of (drop place segment))
      ≡ (p (digits_at segment place) || list_any p (cuts_of (drop (end_of segment place) segment)))
  any_number p = ap (list_any p) number.cuts

  -- what is known of the numbers before the place, and of this one, is known of the numbers before its end
  pub any_more : (p : List ℕ → Bool) (before more : Bool)
      → list_any p (cuts_of segment) ≡ (before || list_any p (cuts_of (drop place segment))) → more ≡ (before || p (digits_at segment place))
      → list_any p (cuts_of segment) ≡ (more || list_any p (cuts_of (drop (end_of segment place) segment)))
  any_more p before more was is =
      was
      ∙ ap (λ others. before || others) (any_number p)
      ∙ sym (or_assoc before (p (digits_at segment place)) (list_any p (cuts_of (drop (end_of segment place) segment))))
      ∙ ap (λ known. known || list_any p (cuts_of (drop (end_of segment place) segment))) (sym is)

  pub count_numbers : length (cuts_of (drop place segment)) ≡ suc (length (cuts_of (drop (end_of segment place) segment)))
  count_numbers = ap length number.cuts

-- ---- what reading it says of its digits

-- the number is not too long, and it is known whether it is too large, or a negative zero
pub record IsTested (digits : List ℕ) (large zero : Bool) : Type 0 where
  pub short : is_too_long digits ≡ false
  pub large_is : is_too_large digits ≡ large
  pub zero_is : is_negative_zero digits ≡ zero

large_not_zero : (digits : List ℕ) → is_too_large digits ≡ true → is_negative_zero digits ≡ false
large_not_zero digits large = ne_eqb (unsigned_of digits) 1 (λ one. let past = ltb-true limit (unsigned_of digits / 2) large in absurd (omega arith))

module _ (read : ℤ × ℕ) where
  abbrev outcome : Bool → Bool → Bool → Result (ℤ × ℕ) VlqFault
  outcome a b d = cond a (Err TooLong) (cond b (Err TooLarge) (cond d (Err NegativeZero) (Ok read)))

  if_too_long : (a b d : Bool) → outcome a b d ≡ Err TooLong → a ≡ true
  if_too_long true b d is = refl
  if_too_long false true d is = absurd (cc)
  if_too_long false false true is = absurd (cc)
  if_too_long false false false is = absurd (cc)

  if_too_large : (a b d : Bool) → outcome a b d ≡ Err TooLarge → (a ≡ false) × (b ≡ true)
  if_too_large true b d is = absurd (cc)
  if_too_large false true d is = (refl, refl)
  if_too_large false false true is = absurd (cc)
  if_too_large false false false is = absurd (cc)

  if_negative_zero : (a b d : Bool) → outcome a b d ≡ Err NegativeZero → (a ≡ false) × (b ≡ false) × (d ≡ true)
  if_negative_zero true b d is = absurd (cc)
  if_negative_zero false true d is = absurd (cc)
  if_negative_zero false false true is = (refl, refl, refl)
  if_negative_zero false false false is = absurd (cc)

  if_none : (a b d : Bool) → (outcome a b d ≡ Err TooLong → ⊥) → (outcome a b d ≡ Err TooLarge → ⊥) → (outcome a b d ≡ Err NegativeZero → ⊥)
      → (a ≡ false) × (b ≡ false) × (d ≡ false)
  if_none true b d not_long not_large not_zero = absurd (not_long refl)
  if_none false true d not_long not_large not_zero = absurd (not_large refl)
  if_none false false true not_long not_large not_zero = absurd (not_zero refl)
  if_none false false false not_long not_large not_zero = (refl, refl, refl)

module _ (segment : List ℕ) (place : ℕ) (number : NumberAt segment place) where
  pub too_long_at : number_at segment place ≡ Err TooLong → is_too_long (digits_at segment place) ≡ true
  too_long_at is = if_too_long _ _ _ _ (sym number.reading ∙ is)

  pub too_large_at : number_at segment place ≡ Err TooLarge → IsTested (digits_at segment place) true false
  too_large_at is =
      let tests = if_too_large _ _ _ _ (sym number.reading ∙ is) in
      record { short = tests.0; large_is = tests.1; zero_is = large_not_zero (digits_at segment place) tests.1 }

  pub negative_zero_at : number_at segment place ≡ Err NegativeZero → IsTested (digits_at segment place) false true
  negative_zero_at is =
      let tests = if_negative_zero _ _ _ _ (sym number.reading ∙ is) in
      record { short = tests.0; large_is = tests.1; zero_is = tests.2 }

  pub no_fault_at : (number_at segment place ≡ Err TooLong → ⊥) → (number_at segment place ≡ Err TooLarge → ⊥)
      → (number_at segment place ≡ Err NegativeZero → ⊥) → IsTested (digits_at segment place) false false
  no_fault_at not_long not_large not_zero =
      let tests = if_none _ _ _ _ (λ is. not_long (number.reading ∙ is)) (λ is. not_large (number.reading ∙ is)) (λ is. not_zero (number.reading ∙ is)) in
      record { short = tests.0; large_is = tests.1; zero_is = tests.2 }
