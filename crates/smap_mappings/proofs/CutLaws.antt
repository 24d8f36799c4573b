-- The numbers of a segment, cut after each digit that ends one.
use Rattle.std.proofs.Common.{◌≡◌, ℕ, ◌+◌, ◌-◌, ◌<◌, ◌≤◌, true, false, List, [], ◌∷◌, ◌++◌, length, get_or, take, drop, Option, Some, None, refl}
use Rattle.std.proofs.Common.{◌*◌, ◌%◌, ◌^◌, zero-add, length-take-le, sym, ap, subst, ◌∙◌, arith, length-drop, length-append, get_or-drop, append_assoc}
use Rattle.std.specs.Prelude.{ℤ, slice_range}
use Rattle.std.specs.List.{onto_first, list_any}
use Rattle.std.specs.Option.{option_map}
use Rattle.std.proofs.lemmas.Bool.{cond-true, cond-false, or_parts, or_from}
use Rattle.std.proofs.lemmas.List.{take_more, drop_more, take_at, take_all, drop_all}
use Rattle.std.proofs.lemmas.List.Folds.{drop_split}
use Rattle.smap_mappings.specs.Vlq.{is_ending, digit_value, digit_sum, Spells}
use Rattle.smap_mappings.specs.Segment.{cuts_of, list_with_front, fields_of}
use Rattle.smap_mappings.proofs.FieldLaws.{first_number, fields-spelled, spells_one}
use Rattle.smap_mappings.proofs.SpelledNumbers.{one_number_nonempty}
use Rattle.smap_mappings.proofs.Numbers.{digit_sum-push}

-- ---- one cut

-- bytes none of which ends a number, before one that does
ended_cut : (front : List ℕ) (byte : ℕ) (more : List ℕ) → list_any is_ending front ≡ false → is_ending byte ≡ true
    → cuts_of (front ++ byte ∷ more) ≡ (front ++ byte ∷ []) ∷ cuts_of more
ended_cut [] byte more none is = cond-true _ _ _ is
ended_cut (b ∷ front) byte more none is =
    let parts = or_parts _ _ none in cond-false _ _ _ parts.0 ∙ ap (onto_first b) (ended_cut front byte more parts.1 is)

-- and before the end
unended_cut : (b : ℕ) (front : List ℕ) → list_any is_ending (b ∷ front) ≡ false → cuts_of (b ∷ front) ≡ (b ∷ front) ∷ []
unended_cut b [] none = cond-false (is_ending b) ((b ∷ []) ∷ []) ((b ∷ []) ∷ []) (or_parts (is_ending b) false none).0
unended_cut b (c ∷ front) none =
    let parts = or_parts _ _ none in cond-false _ _ _ parts.0 ∙ ap (onto_first b) (unended_cut c front parts.1)

any_pushed : (front : List ℕ) (byte : ℕ) → list_any is_ending front ≡ false → is_ending byte ≡ false → list_any is_ending (front ++ byte ∷ []) ≡ false
any_pushed [] byte none is = or_from _ _ is refl
any_pushed (b ∷ front) byte none is = let parts = or_parts _ _ none in or_from _ _ parts.0 (any_pushed front byte parts.1 is)

module _ (segment : List ℕ) (place end : ℕ) (before : place ≤ end) where
  slice_pushed : end < length segment → slice_range segment place (end + 1) ≡ slice_range segment place end ++ get_or segment end 0 ∷ []
  slice_pushed within =
      let next : end + 1 - place ≡ end - place + 1 = omega arith in
      let at : place + (end - place) ≡ end = omega arith in
      ap (λ k. take k (drop place segment)) next
      ∙ take_more (drop place segment) (end - place) 0 (omega (arith, length-drop place segment))
      ∙ ap (λ byte. slice_range segment place end ++ byte ∷ []) (get_or-drop place segment (end - place) 0 ∙ ap (λ i. get_or segment i 0) at)

  module _ (none : list_any is_ending (slice_range segment place end) ≡ false) where
    pub none_more : end < length segment → is_ending (get_or segment end 0) ≡ false → list_any is_ending (slice_range segment place (end + 1)) ≡ false
    none_more within is = ap (list_any is_ending) (slice_pushed within) ∙ any_pushed _ _ none is

    pub cut_at_ending : end < length segment → is_ending (get_or segment end 0) ≡ true
        → cuts_of (drop place segment) ≡ slice_range segment place (end + 1) ∷ cuts_of (drop (end + 1) segment)
    cut_at_ending within is =
        ap cuts_of (drop_split segment place end before ∙ ap (λ rest. slice_range segment place end ++ rest) (drop_more segment end 0 within))
        ∙ ended_cut (slice_range segment place end) (get_or segment end 0) (drop (end + 1) segment) none is
        ∙ ap (λ cut. cut ∷ cuts_of (drop (end + 1) segment)) (sym (slice_pushed within))

pub cut_at_end : (segment : List ℕ) (place : ℕ) → place < length segment → list_any is_ending (slice_range segment place (length segment)) ≡ false
    → cuts_of (drop place segment) ≡ slice_range segment place (length segment) ∷ cuts_of (drop (length segment) segment)
cut_at_end segment place within none =
    let all : slice_range segment place (length segment) ≡ drop place segment =
    take_all (length segment - place) (drop place segment) (omega (arith, length-drop place segment)) in
    let rest : drop place segment ≡ get_or segment place 0 ∷ drop (place + 1) segment = drop_more segment place 0 within in
    ap cuts_of rest
    ∙ unended_cut (get_or segment place 0) (drop (place + 1) segment) (ap (list_any is_ending) (sym rest ∙ sym all) ∙ none)
    ∙ ap (λ cut. cut ∷ []) (sym rest ∙ sym all)
    ∙ ap (λ more. slice_range segment place (length segment) ∷ cuts_of more) (sym (drop_all (length segment) segment (omega arith)))

-- ---- what the digits count for

pub digit_sum_next : (bytes : List ℕ) (i : ℕ) → i < length bytes
    → digit_sum 0 (take (i + 1) bytes) ≡ digit_sum 0 (take i bytes) + digit_value (get_or bytes i 0) % 32 * 32 ^ i
digit_sum_next bytes i within =
    ap (digit_sum 0) (take_more bytes i 0 within)
    ∙ digit_sum-push 0 (take i bytes) (get_or bytes i 0)
    ∙ ap (λ n. digit_sum 0 (take i bytes) + digit_value (get_or bytes i 0) % 32 * 32 ^ n) (zero-add _ ∙ length-take-le i bytes (omega arith))

-- ---- a number and the fields after it

-- what spells a number has a byte
pub spelled_onward : (segment : List ℕ) (place next : ℕ) (n : ℤ) → next ≤ length segment → Spells (slice_range segment place next) n → place < next
spelled_onward segment place next n inside spells =
    let some = one_number_nonempty (slice_range segment place next) (spells_one (slice_range segment place next) n spells) in
    omega (arith, some, length-drop place segment, length-take-le (next - place) (drop place segment) (omega (arith, length-drop place segment)))

pub field_in_front : (segment : List ℕ) (place next : ℕ) (n : ℤ) → place ≤ next → Spells (slice_range segment place next) n
    → fields_of (drop place segment) ≡ list_with_front (Some n) (fields_of (drop next segment))
field_in_front segment place next n before spells =
    ap fields_of (drop_split segment place next before) ∙ fields-spelled (slice_range segment place next) (drop next segment) n spells

-- where no number is spelled, there are no fields
pub no_fields_from : (segment : List ℕ) (place : ℕ) → place < length segment
    → ((n : ℤ) (next : ℕ) → next ≤ length segment → Spells (slice_range segment place next) n → ⊥) → fields_of (drop place segment) ≡ None
no_fields_from segment place within none = at_fields (fields_of (drop place segment)) refl
  where
    rest_is : drop place segment ≡ get_or segment place 0 ∷ drop (place + 1) segment
    rest_is = drop_more segment place 0 within

    at_fields : (o : Option (List ℤ)) → fields_of (drop place segment) ≡ o → o ≡ None
    at_fields None is = refl
    at_fields (Some fields) is =
        let first = first_number (get_or segment place 0) (drop (place + 1) segment) fields (ap fields_of (sym rest_is) ∙ is) in
        let whole : drop place segment ≡ first.0 ++ first.2 = rest_is ∙ first.4 in
        let back : place + length first.0 - place ≡ length first.0 = omega arith in
        let cut : slice_range segment place (place + length first.0) ≡ first.0 =
        ap (λ k. take k (drop place segment)) back ∙ ap (take (length first.0)) whole ∙ take_at first.0 first.2 (length first.0) refl in
        absurd (none first.1 (place + length first.0)
        (omega (arith, length-drop place segment, ap length whole, length-append first.0 first.2))
        (subst (λ bytes. Spells bytes first.1) (sym cut) first.3))

-- the fields so far, one more
pub one_more_field : (so_far : List ℤ) (n : ℤ) (others : Option (List ℤ))
    → option_map (λ rest. so_far ++ rest) (list_with_front (Some n) others) ≡ option_map (λ rest. (so_far ++ n ∷ []) ++ rest) others
one_more_field so_far n None = refl
one_more_field so_far n (Some rest) = ap Some (sym (append_assoc so_far (n ∷ []) rest))
