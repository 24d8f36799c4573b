-- What is read at a place is what the bytes there spell, and the other way round.
use Rattle.std.proofs.Common.{◌≡◌, ℕ, ◌+◌, ◌-◌, ◌<◌, ◌≤◌, suc, zero, Bool, true, false, not, cond, eqb, List, [], ◌∷◌, length, get_or, take, drop}
use Rattle.std.proofs.Common.{Option, Some, None, Result, Ok, Err, refl, sym, ap, ◌∙◌, arith, length-drop, length-take-le, get_or-drop, get_or-take}
use Rattle.std.proofs.Common.{ltb-true, ltb-false, lt-ltb, leb-true, leb-false, is_some, eq-eqb}
use Rattle.std.specs.Prelude.{ℤ, slice_range}
use Rattle.std.proofs.lemmas.Bool.{eqb-false, cond-true, and_from, and_parts, and_right, not-true, not-false, false_from_ne_true, both_ways, not_from_false}
use Rattle.std.proofs.lemmas.Option.{cond_some}
use Rattle.std.proofs.lemmas.List.Sums.{prefix_len_is, prefix_len_passes, prefix_len_stops, prefix_len-le-length}
use Rattle.smap_mappings.specs.Base64.{digit_of}
use Rattle.smap_mappings.specs.Vlq.{digit_value, is_digit, is_continuing, is_ending, digit_sum, unsigned_of, signed_number, is_one_number, number_of}
use Rattle.smap_mappings.specs.Vlq.{Spells, number_at}
use Rattle.smap_mappings.specs.Private.Reading.{checked_number, number_with_end, front_at}
use Rattle.smap_mappings.specs.declared.vlq.VlqFault.{VlqFault}
use Rattle.smap_mappings.specs.declared.vlq.VlqFault.TheVariants.{BadDigit, Unended, TooLong, TooLarge, NegativeZero}
use Rattle.smap_mappings.proofs.Numbers.{at_number, checked_signed}

-- ---- digits that continue, and digits that end

pub ends_stops : (byte : ℕ) → is_ending byte ≡ true → is_continuing byte ≡ false
ends_stops byte is = and_right _ _ (let low : digit_value byte < 32 = ltb-true (digit_value byte) 32 (and_parts _ _ is).1
    in false_from_ne_true _ (λ e. let high = leb-true 32 (digit_value byte) e in absurd (omega arith)))

pub ends_is_digit : (byte : ℕ) → is_ending byte ≡ true → is_digit byte ≡ true
ends_is_digit byte is = (and_parts _ _ is).0

pub ends_from_stops : (byte : ℕ) → is_digit byte ≡ true → is_continuing byte ≡ false → is_ending byte ≡ true
ends_from_stops byte is stops =
    and_from _ _ is (lt-ltb (digit_value byte) 32 (leb-false 32 (digit_value byte) (false_from_ne_true _ (λ e. both_ways _ stops (and_from _ _ is e)))))

pub digit_from_is_digit : (byte : ℕ) → is_digit byte ≡ true → (value : ℕ) × (digit_of byte ≡ Some value)
digit_from_is_digit byte is = some_of (digit_of byte) is where
  some_of : (o : Option ℕ) → is_some o ≡ true → (value : ℕ) × (o ≡ Some value)
  some_of None is = absurd (cc)
  some_of (Some value) is = (value, refl)

-- ---- one number, by its places

pub one_number_from : (bytes : List ℕ) (n : ℕ) → length bytes ≡ n + 1 → ((i : ℕ) → i < n → is_continuing (get_or bytes i 0) ≡ true)
    → is_ending (get_or bytes n 0) ≡ true → is_one_number bytes ≡ true
one_number_from [] n len front last = absurd (omega arith)
one_number_from (b ∷ []) n len front last = let is_zero : n ≡ 0 = omega arith in ap (λ i. is_ending (get_or (b ∷ []) i 0)) (sym is_zero) ∙ last
one_number_from (b ∷ c ∷ bytes) n len front last =
    let back : suc (n - 1) ≡ n = omega arith in
    and_from _ _ (front 0 (omega arith)) (one_number_from (c ∷ bytes) (n - 1) (omega arith) (λ i lt. front (suc i) (omega arith))
    (ap (λ i. is_ending (get_or (b ∷ c ∷ bytes) i 0)) back ∙ last))

pub one_number_nonempty : (bytes : List ℕ) → is_one_number bytes ≡ true → 0 < length bytes
one_number_nonempty [] is = absurd (cc)
one_number_nonempty (b ∷ bytes) is = omega arith

pub one_number_front : (bytes : List ℕ) → is_one_number bytes ≡ true → (i : ℕ) → suc i < length bytes → is_continuing (get_or bytes i 0) ≡ true
one_number_front [] is i lt = absurd (omega arith)
one_number_front (b ∷ []) is i lt = absurd (omega arith)
one_number_front (b ∷ c ∷ bytes) is zero lt = (and_parts _ _ is).0
one_number_front (b ∷ c ∷ bytes) is (suc i) lt = one_number_front (c ∷ bytes) (and_parts _ _ is).1 i (omega arith)

pub one_number_last : (bytes : List ℕ) → is_one_number bytes ≡ true → (n : ℕ) → length bytes ≡ suc n → is_ending (get_or bytes n 0) ≡ true
one_number_last [] is n len = absurd (cc)
one_number_last (b ∷ []) is n len = let is_zero : 0 ≡ n = omega arith in ap (λ i. is_ending (get_or (b ∷ []) i 0)) (sym is_zero) ∙ is
one_number_last (b ∷ c ∷ bytes) is zero len = absurd (omega arith)
one_number_last (b ∷ c ∷ bytes) is (suc n) len = one_number_last (c ∷ bytes) (and_parts _ _ is).1 n (omega arith)

-- ---- the parts of an answer

abbrev Reading : Type 0
Reading = Result (ℤ × ℕ) VlqFault

ok_from_tests : (a b c : Bool) (d e f : VlqFault) (r : Reading) (x : ℤ × ℕ) → cond a (Err d) (cond b (Err e) (cond c (Err f) r)) ≡ Ok x
    → ((a ≡ false) × (b ≡ false)) × ((c ≡ false) × (r ≡ Ok x))
ok_from_tests true b c d e f r x is = absurd (cc)
ok_from_tests false true c d e f r x is = absurd (cc)
ok_from_tests false false true d e f r x is = absurd (cc)
ok_from_tests false false false d e f r x is = ((refl, refl), (refl, is))

number_from_tests : (a b : Bool) (d e : VlqFault) (m n : ℤ) (last end : ℕ)
    → ◌≡◌ {A = Reading} (cond a (Err d) (cond b (Err e) (Ok (m, last)))) (Ok (n, end)) → ((a ≡ false) × (b ≡ false)) × ((m ≡ n) × (last ≡ end))
number_from_tests true b d e m n last end is = absurd (cc)
number_from_tests false true d e m n last end is = absurd (cc)
number_from_tests false false d e m n last end is =
    let parts : ◌≡◌ {A = ℤ × ℕ} (m, last) (n, end) = cc in ((refl, refl), (ap (λ (p : ℤ × ℕ). p.0) parts, ap (λ (p : ℤ × ℕ). p.1) parts))

-- ---- both ways

module _ (bytes : List ℕ) (place : ℕ) where
  -- what is read is spelled
  pub spelled_from : (n : ℤ) (end : ℕ) → place ≤ length bytes → number_at bytes place ≡ Ok (n, end)
      → (end ≤ length bytes) × Spells (slice_range bytes place end) n
  unfolding number_at number_of unsigned_of
  spelled_from n end from is =
      let rest = drop place bytes in
      let front = front_at bytes place in
      let rest_length = length-drop place bytes in
      let at_most = prefix_len-le-length is_continuing rest in
      let tests = ok_from_tests (eqb front (length rest)) (not (is_digit (get_or rest front 0))) _ Unended BadDigit TooLong _ (n, end) is in
      let number = number_from_tests _ _ TooLarge NegativeZero (signed_number (digit_sum 0 (take (front + 1) rest))) n (place + front + 1) end tests.1.1 in
      let inside : front < length rest = omega (arith, eqb-false front (length rest) tests.0.0) in
      let end_is : place + front + 1 ≡ end = number.1.1 in
      let taken : end - place ≡ front + 1 = omega arith in
      let cut = take (front + 1) rest in
      let cut_length : length cut ≡ front + 1 = length-take-le (front + 1) rest (omega arith) in
      let last : is_ending (get_or rest front 0) ≡ true = ends_from_stops _ (not-false _ tests.0.1) (prefix_len_stops is_continuing rest 0 inside) in
      let one : is_one_number cut ≡ true =
      one_number_from cut front cut_length
      (λ i lt. ap is_continuing (get_or-take (front + 1) rest i 0 (omega arith)) ∙ prefix_len_passes is_continuing rest i 0 lt)
      (ap is_ending (get_or-take (front + 1) rest front 0 (omega arith)) ∙ last) in (
        omega arith,
        rw taken (cond-true _ _ _ (and_from _ _ (and_from _ _ (and_from _ _ one (not_from_false _ tests.1.0)) (not_from_false _ number.0.0))
            (not_from_false _ number.0.1)) ∙ ap Some number.1.0),
      )

  -- what is spelled is read
  pub spelled_to : (n : ℤ) (end : ℕ) → place ≤ length bytes → end ≤ length bytes → Spells (slice_range bytes place end) n → number_at bytes place ≡ Ok (n, end)
  unfolding number_of unsigned_of
  spelled_to n end from within spells =
      let rest = drop place bytes in
      let cut = slice_range bytes place end in
      let rest_length = length-drop place bytes in
      let test = cond_some _ _ _ spells in
      let tests = and_parts _ _ test.0 in
      let tests' = and_parts _ _ tests.0 in
      let tests'' = and_parts _ _ tests'.0 in
      let one : is_one_number cut ≡ true = tests''.0 in
      let cut_length : length cut ≡ end - place = length-take-le (end - place) rest (omega arith) in
      let nonempty = one_number_nonempty cut one in
      let short : length cut ≤ 7 = ltb-false _ _ (not-true _ tests''.1) in
      let before : end - place ≡ suc (end - place - 1) = omega arith in
      let last : is_ending (get_or rest (end - place - 1) 0) ≡ true =
      ap is_ending (sym (get_or-take (end - place) rest (end - place - 1) 0 (omega arith))) ∙ one_number_last cut one (end - place - 1) (omega arith) in
      let front : front_at bytes place ≡ end - place - 1 =
      prefix_len_is is_continuing rest (end - place - 1) 0 (omega arith)
      (λ i lt. ap is_continuing (sym (get_or-take (end - place) rest i 0 (omega arith))) ∙ one_number_front cut one i (omega arith))
      (λ inside. ends_stops _ last) in
      let at_end : get_or rest (end - place - 1) 0 ≡ get_or bytes (end - 1) 0 =
      get_or-drop place bytes (end - place - 1) 0 ∙ ap (λ i. get_or bytes i 0) (omega arith) in
      let digit = digit_from_is_digit (get_or bytes (end - 1) 0) (ap is_digit (sym at_end) ∙ ends_is_digit _ last) in
      let taken : front_at bytes place + 1 ≡ end - place = omega arith in
      at_number bytes place (end - 1) digit.0 (omega arith) (omega arith) digit.1 (omega arith)
      ∙ ap (λ k. number_with_end (end - 1 + 1) (checked_number (digit_sum 0 (take k rest)))) taken
      ∙ ap (λ e. number_with_end e (checked_number (digit_sum 0 cut))) (omega arith)
      ∙ ap (number_with_end end) (checked_signed (digit_sum 0 cut) (ltb-false _ _ (not-true _ tests'.1))
      (λ e. both_ways _ (not-true _ tests.1) (eq-eqb _ _ e)) ∙ ap Ok test.1)
