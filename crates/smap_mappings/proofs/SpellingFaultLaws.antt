-- A segment's bytes without a bad digit, whose last digit ends a number, are numbers one after another.
use Rattle.std.proofs.Common.{◌≡◌, ℕ, ◌<◌, suc, true, false, not, ◌||◌, cond, eqb, List, [], ◌∷◌, length, take, drop, Option, Some, None, refl}
use Rattle.std.proofs.Common.{sym, ap, subst, ◌∙◌, arith, one-add, take-append-drop, ⊎_elim, unwrap_or}
use Rattle.std.specs.Prelude.{ℤ}
use Rattle.std.specs.List.{onto_first, prefix_len, list_any, AllByRecursion}
use Rattle.std.proofs.lemmas.Bool.{cond-true, cond-false, cases_Bool, both_ways, and_from, and_parts, or_parts, or_from, not-true, not-false}
use Rattle.std.proofs.lemmas.Bool.{not_from_true, not_from_false}
use Rattle.std.proofs.lemmas.Option.{cond_some}
use Rattle.smap_mappings.specs.Vlq.{is_digit, is_continuing, is_ending, unsigned_of, signed_number, is_one_number, number_of, is_too_long}
use Rattle.smap_mappings.specs.Vlq.{is_too_large, is_negative_zero}
use Rattle.smap_mappings.specs.Segment.{cuts_of, list_with_front, numbers_of, fields_of, has_known_length}
use Rattle.smap_mappings.specs.Faults.{has_bad_digit, is_unended, numbers_fault, spelling_fault}
use Rattle.smap_mappings.specs.Private.Spelling.{IsClean}
use Rattle.smap_mappings.specs.declared.fault.FaultKind.TheVariants.{BadDigit, Unended, TooLong, TooLarge, NegativeZero, FieldCount}
use Rattle.smap_mappings.proofs.SpelledNumbers.{ends_stops, ends_is_digit, ends_from_stops}
use Rattle.smap_mappings.proofs.FieldLaws.{cuts-one_number, first_cut, with_front_parts}
use Rattle.smap_mappings.proofs.ShortestLaws.{one_number-cons}
use Rattle.smap_mappings.proofs.ValueFaultLaws.{none_from_test}

-- ---- the first number of clean bytes

pub record CleanFront (bytes : List ℕ) : Type 0 where
  pub inside : prefix_len is_continuing bytes < length bytes
  pub one : is_one_number (take (suc (prefix_len is_continuing bytes)) bytes) ≡ true
  pub rest : IsClean (drop (suc (prefix_len is_continuing bytes)) bytes)

is_digit_of_clean : (b : ℕ) (bytes : List ℕ) → IsClean (b ∷ bytes) → is_digit b ≡ true
is_digit_of_clean b bytes clean = not-false _ (or_parts _ _ clean.digits).0

-- a digit that continues stands before another
front_at_one : (b : ℕ) (bytes : List ℕ) (n : ℕ) → n ≡ 0 → is_ending b ≡ true → IsClean bytes
    → (n < length (b ∷ bytes)) × (is_one_number (take (suc n) (b ∷ bytes)) ≡ true) × IsClean (drop (suc n) (b ∷ bytes))
front_at_one b bytes n zero_is is clean =
    subst (λ k. (k < length (b ∷ bytes)) × (is_one_number (take (suc k) (b ∷ bytes)) ≡ true) × IsClean (drop (suc k) (b ∷ bytes)))
    (sym zero_is) (omega arith, is, clean)

pub clean_front : (b : ℕ) (bytes : List ℕ) → IsClean (b ∷ bytes) → CleanFront (b ∷ bytes)
clean_front b [] clean =
    let stops : is_continuing b ≡ false = clean.ended in
    let front : prefix_len is_continuing (b ∷ []) ≡ 0 = cond-false _ _ _ stops in
    let here = front_at_one b [] _ front (ends_from_stops b (is_digit_of_clean b [] clean) stops) (record { digits = refl; ended = refl }) in
    record { inside = here.0; one = here.1; rest = here.2 }
clean_front b (c ∷ bytes) clean =
    let rest : IsClean (c ∷ bytes) = record { digits = (or_parts _ _ clean.digits).1; ended = clean.ended } in
    ⊎_elim
    (λ on.
    let more : CleanFront (c ∷ bytes) = clean_front c bytes rest in
    let front : prefix_len is_continuing (b ∷ c ∷ bytes) ≡ suc (prefix_len is_continuing (c ∷ bytes)) =
    cond-true _ _ _ on ∙ one-add (prefix_len is_continuing (c ∷ bytes)) in
    record {
      inside = omega (arith, front, more.inside);
      one = ap (λ n. is_one_number (take (suc n) (b ∷ c ∷ bytes))) front ∙ and_from _ _ on more.one;
      rest = subst (λ n. IsClean (drop (suc n) (b ∷ c ∷ bytes))) (sym front) more.rest;
    })
    (λ stops.
    let front : prefix_len is_continuing (b ∷ c ∷ bytes) ≡ 0 = cond-false _ _ _ stops in
    let here = front_at_one b (c ∷ bytes) _ front (ends_from_stops b (is_digit_of_clean b (c ∷ bytes) clean) stops) rest in
    record { inside = here.0; one = here.1; rest = here.2 })
    (cases_Bool (is_continuing b))

-- the numbers of clean bytes: the first, and those of the bytes after it
pub clean_cuts : (bytes : List ℕ) → CleanFront bytes
    → cuts_of bytes ≡ take (suc (prefix_len is_continuing bytes)) bytes ∷ cuts_of (drop (suc (prefix_len is_continuing bytes)) bytes)
clean_cuts bytes front =
    let n = suc (prefix_len is_continuing bytes) in
    ap cuts_of (sym (take-append-drop n bytes)) ∙ cuts-one_number (take n bytes) (drop n bytes) front.one

-- ---- clean bytes and numbers

abbrev pub AllOne : List (List ℕ) → Type 0
AllOne numbers = AllByRecursion (λ number. is_one_number number ≡ true) numbers

continues_from_not_ends : (b : ℕ) → is_digit b ≡ true → is_ending b ≡ false → is_continuing b ≡ true
continues_from_not_ends b is not_last = ⊎_elim (λ on. on) (λ stops. absurd (both_ways _ not_last (ends_from_stops b is stops))) (cases_Bool (is_continuing b))

pub clean_all_one : (bytes : List ℕ) → IsClean bytes → AllOne (cuts_of bytes)
clean_all_one [] clean = tt
clean_all_one (b ∷ []) clean =
    let last : is_ending b ≡ true = ends_from_stops b (is_digit_of_clean b [] clean) clean.ended in
    subst AllOne (sym (cond-true _ _ _ last)) (last, tt)
clean_all_one (b ∷ c ∷ bytes) clean =
    let more = clean_all_one (c ∷ bytes) (record { digits = (or_parts _ _ clean.digits).1; ended = clean.ended }) in
    let first = first_cut c bytes in
    ⊎_elim
    (λ yes. subst AllOne (sym (cond-true _ _ _ yes)) (yes, more))
    (λ no.
    let ones : AllOne (first.cut ∷ first.cuts) = subst AllOne first.is more in
    subst AllOne (sym (cond-false _ _ _ no ∙ ap (onto_first b) first.is))
    (one_number-cons b first.cut (continues_from_not_ends b (is_digit_of_clean b (c ∷ bytes) clean) no) ones.0, ones.1))
    (cases_Bool (is_ending b))

-- the digit before a number that is one with it
shorter_number : (b : ℕ) (number : List ℕ) → is_ending b ≡ false → is_one_number (b ∷ number) ≡ true → (is_continuing b ≡ true) × (is_one_number number ≡ true)
shorter_number b [] not_last one = absurd (both_ways _ not_last one)
shorter_number b (c ∷ number) not_last one = and_parts _ _ one

clean_from : (b : ℕ) (bytes : List ℕ) → is_digit b ≡ true → has_bad_digit bytes ≡ false → has_bad_digit (b ∷ bytes) ≡ false
clean_from b bytes is rest = or_from _ _ (not_from_true _ is) rest

pub all_one_clean : (bytes : List ℕ) → AllOne (cuts_of bytes) → IsClean bytes
all_one_clean [] all = record { digits = refl; ended = refl }
all_one_clean (b ∷ []) all =
    ⊎_elim
    (λ yes. record { digits = clean_from b [] (ends_is_digit b yes) refl; ended = ends_stops b yes })
    (λ no. absurd (both_ways _ no (let ones : AllOne ((b ∷ []) ∷ []) = subst AllOne (cond-false _ _ _ no) all in ones.0)))
    (cases_Bool (is_ending b))
all_one_clean (b ∷ c ∷ bytes) all =
    let first = first_cut c bytes in
    ⊎_elim
    (λ yes.
    let ones : AllOne ((b ∷ []) ∷ cuts_of (c ∷ bytes)) = subst AllOne (cond-true _ _ _ yes) all in
    let more = all_one_clean (c ∷ bytes) ones.1 in
    record { digits = clean_from b (c ∷ bytes) (ends_is_digit b yes) more.digits; ended = more.ended })
    (λ no.
    let ones : AllOne ((b ∷ first.cut) ∷ first.cuts) = subst AllOne (cond-false _ _ _ no ∙ ap (onto_first b) first.is) all in
    let parts = shorter_number b first.cut no ones.0 in
    let more = all_one_clean (c ∷ bytes) (subst AllOne (sym first.is) (parts.1, ones.1)) in
    record { digits = clean_from b (c ∷ bytes) (and_parts _ _ parts.0).0 more.digits; ended = more.ended })
    (cases_Bool (is_ending b))

-- ---- numbers with no fault have values

pub record NoNumberFault (numbers : List (List ℕ)) : Type 0 where
  pub short : list_any is_too_long numbers ≡ false
  pub small : list_any is_too_large numbers ≡ false
  pub not_zero : list_any is_negative_zero numbers ≡ false

number_value : (number : List ℕ) → is_one_number number ≡ true → is_too_long number ≡ false → is_too_large number ≡ false
    → is_negative_zero number ≡ false → number_of number ≡ Some (signed_number (unsigned_of number))
unfolding number_of
number_value number one short small not_zero =
    cond-true _ _ _ (and_from _ _ (and_from _ _ (and_from _ _ one (not_from_false _ short)) (not_from_false _ small)) (not_from_false _ not_zero))

value_number : (number : List ℕ) (n : ℤ) → number_of number ≡ Some n
    → ((is_one_number number ≡ true) × (is_too_long number ≡ false)) × ((is_too_large number ≡ false) × (is_negative_zero number ≡ false))
unfolding number_of
value_number number n is =
    let a = and_parts _ _ (cond_some _ _ _ is).0 in
    let b = and_parts _ _ a.0 in
    let c = and_parts _ _ b.0 in
    ((c.0, not-true _ c.1), (not-true _ b.1, not-true _ a.1))

pub numbers_value : (numbers : List (List ℕ)) → AllOne numbers → NoNumberFault numbers
    → (ns : List ℤ) × (numbers_of numbers ≡ Some ns) × (length ns ≡ length numbers)
numbers_value [] all none = ([], refl, refl)
numbers_value (number ∷ numbers) all none =
    let short = or_parts _ _ none.short in
    let small = or_parts _ _ none.small in
    let not_zero = or_parts _ _ none.not_zero in
    let more = numbers_value numbers all.1 (record { short = short.1; small = small.1; not_zero = not_zero.1 }) in
    let here = number_value number all.0 short.0 small.0 not_zero.0 in
    (signed_number (unsigned_of number) ∷ more.0, (λ i. list_with_front (here i) (more.1 i)), ap suc more.2)

pub value_numbers : (numbers : List (List ℕ)) (ns : List ℤ) → numbers_of numbers ≡ Some ns
    → AllOne numbers × NoNumberFault numbers × (length ns ≡ length numbers)
value_numbers [] ns is = (tt, record { short = refl; small = refl; not_zero = refl }, ap length (let e : ns ≡ [] = cc in e))
value_numbers (number ∷ numbers) ns is =
    let parts = with_front_parts (number_of number) (numbers_of numbers) ns is in
    let here = value_number number parts.0 parts.2 in
    let more = value_numbers numbers parts.1 parts.3 in (
      (here.0.0, more.0),
      record {
        short = or_from _ _ here.0.1 more.1.short;
        small = or_from _ _ here.1.0 more.1.small;
        not_zero = or_from _ _ here.1.1 more.1.not_zero;
      },
      ap length parts.4 ∙ ap suc more.2,
    )

-- ---- a segment has no fault of its spelling where it has one, four or five fields, and only there

same_length : {X Y : Type 0} (xs : List X) (ys : List Y) → length xs ≡ length ys → has_known_length xs ≡ has_known_length ys
same_length xs ys is = ap (λ n. eqb n 1 || eqb n 4 || eqb n 5) is

pub spelled_known : (bytes : List ℕ) → spelling_fault bytes ≡ None → has_known_length (unwrap_or (fields_of bytes) []) ≡ true
unfolding spelling_fault fields_of
spelled_known bytes none =
    let bad = none_from_test _ BadDigit _ none in
    let unended = none_from_test _ Unended _ bad.1 in
    let long = none_from_test _ TooLong _ unended.1 in
    let large = none_from_test _ TooLarge _ long.1 in
    let zero = none_from_test _ NegativeZero _ large.1 in
    let count = none_from_test _ FieldCount None zero.1 in
    let ns = numbers_value (cuts_of bytes) (clean_all_one bytes (record { digits = bad.0; ended = unended.0 }))
    (record { short = long.0; small = large.0; not_zero = zero.0 }) in
    ap (λ o. has_known_length (unwrap_or o [])) ns.1 ∙ same_length ns.0 (cuts_of bytes) ns.2 ∙ not-false _ count.0

pub known_spelled : (bytes : List ℕ) → has_known_length (unwrap_or (fields_of bytes) []) ≡ true → spelling_fault bytes ≡ None
unfolding spelling_fault fields_of
known_spelled bytes known = at_fields (numbers_of (cuts_of bytes)) refl
  where
    at_fields : (o : Option (List ℤ)) → numbers_of (cuts_of bytes) ≡ o
        → cond (has_bad_digit bytes) (Some BadDigit) (cond (is_unended bytes) (Some Unended) (numbers_fault (cuts_of bytes))) ≡ None
    at_fields None is = let bad : false ≡ true = ap (λ o. has_known_length (unwrap_or o [])) (sym is) ∙ known in absurd (cc)
    at_fields (Some ns) is =
        let parts = value_numbers (cuts_of bytes) ns is in
        let clean = all_one_clean bytes parts.0 in
        let count : not (has_known_length (cuts_of bytes)) ≡ false =
        not_from_true _ (same_length (cuts_of bytes) ns (sym parts.2) ∙ ap (λ o. has_known_length (unwrap_or o [])) (sym is) ∙ known) in
        cond-false _ _ _ clean.digits ∙ cond-false _ _ _ clean.ended ∙ cond-false _ _ _ parts.1.short ∙ cond-false _ _ _ parts.1.small
        ∙ cond-false _ _ _ parts.1.not_zero ∙ cond-false _ _ _ count
