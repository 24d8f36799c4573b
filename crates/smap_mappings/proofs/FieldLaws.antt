-- A number at the front of a segment is its first field, and the other fields are those of the bytes after it.
use Rattle.std.proofs.Common.{◌≡◌, ℕ, ◌+◌, ◌-◌, ◌<◌, ◌≤◌, suc, true, false, ◌||◌, eqb, List, [], ◌∷◌, ◌++◌, length, get_or, take, drop, Option, Some}
use Rattle.std.proofs.Common.{None, refl, sym, ap, subst, ◌∙◌, arith, length-append, length-drop, length-take-le, take-append-drop, append_assoc}
use Rattle.std.proofs.Common.{⊎_elim, ◌⊎◌, inl, inr, is_some, unwrap_or}
use Rattle.std.specs.Prelude.{ℤ, slice_range, IfSome, IfNone, ◌↔◌, Result, Ok, Err}
use Rattle.std.specs.Result.{result_ok}
use Rattle.smap_mappings.specs.declared.vlq.VlqFault.{VlqFault}
use Rattle.std.specs.List.{onto_first, take_while, prefix_len}
use Rattle.std.proofs.lemmas.Bool.Decides.{nat_tests}
use Rattle.std.proofs.lemmas.Bool.{cond-true, cond-false, cases_Bool, both_ways, and_parts, or_from, not_from_false, eqb-true, false_from_ne_true}
use Rattle.std.proofs.lemmas.Bool.{ltb-false, not-true}
use Rattle.std.proofs.lemmas.Option.{cond_some}
use Rattle.std.proofs.lemmas.List.{drop-drop, drop_more, take_at, nil_from_length}
use Rattle.std.proofs.lemmas.List.Sums.{take_while-cons}
use Rattle.smap_mappings.specs.Base64.{digit_of}
use Rattle.smap_mappings.specs.Vlq.{is_digit, is_continuing, is_ending, is_one_number, number_of, Spells}
use Rattle.smap_mappings.specs.Segment.{has_known_length, cuts_of, list_with_front, numbers_of, fields_of}
use Rattle.smap_mappings.specs.Private.Reading.{is_inside, segment_at, fields_at, known_fields, HasNoField, IsFieldAt, IsSegmentAt}
use Rattle.smap_mappings.proofs.SpelledNumbers.{ends_stops, digit_from_is_digit, one_number_nonempty}

-- ---- a digit is no separator

no_digit_at : (b : ℕ) → digit_of b ≡ None → (byte : ℕ) → is_digit byte ≡ true → eqb byte b ≡ false
no_digit_at b none byte is = false_from_ne_true _ (λ e. let value = digit_from_is_digit byte is in
    let both : None ≡ Some value.0 = sym none ∙ ap digit_of (sym (eqb-true byte b e)) ∙ value.1 in absurd (cc))

pub digit_is_inside : (byte : ℕ) → is_digit byte ≡ true → is_inside byte ≡ true
unfolding digit_of
digit_is_inside byte is = not_from_false _ (or_from _ _ (no_digit_at 59 refl byte is) (no_digit_at 44 refl byte is))

continues_not_ends : (byte : ℕ) → is_continuing byte ≡ true → is_ending byte ≡ false
continues_not_ends byte is = false_from_ne_true _ (λ e. absurd (both_ways _ (ends_stops byte e) is))

-- ---- a number before other bytes

pub run-one_number : (number more : List ℕ) → is_one_number number ≡ true → take_while is_inside (number ++ more) ≡ number ++ take_while is_inside more
run-one_number [] more is = absurd (cc)
run-one_number (b ∷ []) more is = take_while-cons is_inside b more ∙ cond-true _ _ _ (digit_is_inside b (and_parts _ _ is).0)
run-one_number (b ∷ c ∷ number) more is =
    let parts = and_parts _ _ is in
    take_while-cons is_inside b ((c ∷ number) ++ more) ∙ cond-true _ _ _ (digit_is_inside b (and_parts _ _ parts.0).0)
    ∙ ap (λ run. b ∷ run) (run-one_number (c ∷ number) more parts.1)

pub cuts-one_number : (number more : List ℕ) → is_one_number number ≡ true → cuts_of (number ++ more) ≡ number ∷ cuts_of more
cuts-one_number [] more is = absurd (cc)
cuts-one_number (b ∷ []) more is = cond-true _ _ _ is
cuts-one_number (b ∷ c ∷ number) more is =
    let parts = and_parts _ _ is in
    cond-false _ _ _ (continues_not_ends b parts.0) ∙ ap (onto_first b) (cuts-one_number (c ∷ number) more parts.1)

-- what spells a number is one
pub spells_one : (bytes : List ℕ) (n : ℤ) → Spells bytes n → is_one_number bytes ≡ true
unfolding number_of
spells_one bytes n spells = (and_parts _ _ (and_parts _ _ (and_parts _ _ (cond_some _ _ _ spells).0).0).0).0

pub fields-spelled : (number more : List ℕ) (n : ℤ) → Spells number n → fields_of (number ++ more) ≡ list_with_front (Some n) (fields_of more)
unfolding fields_of
fields-spelled number more n spells = ap numbers_of (cuts-one_number number more (spells_one number n spells))
    ∙ ap (λ first. list_with_front first (numbers_of (cuts_of more))) spells

-- ---- the first number of some fields

-- the first cut, and what is after it
pub record FirstCut (bytes : List ℕ) : Type 0 where
  pub cut : List ℕ
  pub cuts : List (List ℕ)
  pub more : List ℕ
  pub is : cuts_of bytes ≡ cut ∷ cuts
  pub joins : bytes ≡ cut ++ more

pub first_cut : (b : ℕ) (bytes : List ℕ) → FirstCut (b ∷ bytes)
first_cut b [] = record {
  cut = b ∷ [];
  cuts = [];
  more = [];
  is = ⊎_elim (λ yes. cond-true _ _ _ yes) (λ no. cond-false _ _ _ no) (cases_Bool (is_ending b));
  joins = refl;
}
first_cut b (c ∷ bytes) =
    let rest = first_cut c bytes in
    ⊎_elim
    (λ yes. record { cut = b ∷ []; cuts = cuts_of (c ∷ bytes); more = c ∷ bytes; is = cond-true _ _ _ yes; joins = refl })
    (λ no. record {
      cut = b ∷ rest.cut;
      cuts = rest.cuts;
      more = rest.more;
      is = cond-false _ _ _ no
          ∙ ap (onto_first b) rest.is;
      joins = ap (λ bs. b ∷ bs) rest.joins;
    })
    (cases_Bool (is_ending b))

pub with_front_parts : (first : Option ℤ) (others : Option (List ℤ)) (ns : List ℤ) → list_with_front first others ≡ Some ns
    → (n : ℤ) × (ms : List ℤ) × (first ≡ Some n) × (others ≡ Some ms) × (ns ≡ n ∷ ms)
with_front_parts None others ns is = absurd (cc)
with_front_parts (Some n) None ns is = absurd (cc)
with_front_parts (Some n) (Some ms) ns is = (n, ms, refl, refl, sym (let e : n ∷ ms ≡ ns = cc in e))

-- bytes that spell fields, and aren't none, begin with a number
pub first_number : (b : ℕ) (bytes : List ℕ) (fields : List ℤ) → fields_of (b ∷ bytes) ≡ Some fields
    → (number : List ℕ) × (n : ℤ) × (more : List ℕ) × Spells number n × (b ∷ bytes ≡ number ++ more)
unfolding fields_of
first_number b bytes fields is =
    let first = first_cut b bytes in
    let front = with_front_parts _ _ fields (sym (ap numbers_of first.is) ∙ is) in
    (first.cut, front.0, first.more, front.2, first.joins)

pub no_bytes_no_fields : fields_of [] ≡ Some []
unfolding fields_of
no_bytes_no_fields = refl

-- ---- at a place of a text

-- a number that is spelled at a place is the first field of the bytes there
pub reads_field : (text : List ℕ) (place next : ℕ) (n : ℤ) → next ≤ length text → Spells (slice_range text place next) n → IsFieldAt text place n next
reads_field text place next n inside spells =
    let number = slice_range text place next in
    let rest = drop place text in
    let one = spells_one number n spells in
    let some : 0 < length number = one_number_nonempty number one in
    let within : next - place ≤ length rest = omega (arith, length-drop place text) in
    let counted : length number ≡ next - place = length-take-le (next - place) rest within in
    let after : drop (next - place) rest ≡ drop next text = drop-drop (next - place) place text ∙ ap (λ i. drop i text) (omega arith) in
    let whole : rest ≡ number ++ drop next text = sym (take-append-drop (next - place) rest) ∙ ap (λ more. number ++ more) after in
    let run : segment_at text place ≡ number ++ segment_at text next = ap (take_while is_inside) whole ∙ run-one_number number (drop next text) one in
    record {
      inside = inside;
      fields = ap fields_of run ∙ fields-spelled number (segment_at text next) n spells;
      ends = omega (arith, ap length run, length-append number (segment_at text next));
    }

-- and so is one that its byte spells by itself
pub reads_short_field : (text : List ℕ) (place : ℕ) (n : ℤ) → place < length text → Spells (get_or text place 0 ∷ []) n → IsFieldAt text place n (place + 1)
reads_short_field text place n within spells =
    let one : place + 1 - place ≡ 1 = omega arith in
    let byte : slice_range text place (place + 1) ≡ get_or text place 0 ∷ [] =
    ap (λ k. take k (drop place text)) one ∙ ap (take 1) (drop_more text place 0 within) in
    reads_field text place (place + 1) n (omega arith) (subst (λ bytes. Spells bytes n) (sym byte) spells)

if_some_from : {A : Type 0} (o : Option A) (P : A → Type 0) → ((x : A) → o ≡ Some x → P x) → IfSome o P
if_some_from None P h = tt
if_some_from (Some x) P h = h x refl

-- where no number is spelled at a place, no field stands there
pub no_field : (text : List ℕ) (place : ℕ) → place ≤ length text
    → ((n : ℤ) (next : ℕ) → next ≤ length text → Spells (slice_range text place next) n → ⊥) → HasNoField text place
no_field text place inside none = if_some_from (fields_at text place) (λ fields. fields ≡ []) (no_fields (segment_at text place) refl)
  where
    no_fields : (bytes : List ℕ) → segment_at text place ≡ bytes → (fields : List ℤ) → fields_of (segment_at text place) ≡ Some fields → fields ≡ []
    no_fields [] is fields spelled =
        let both : Some fields ≡ Some [] = sym spelled ∙ ap fields_of is ∙ no_bytes_no_fields in cc
    no_fields (b ∷ bytes) is fields spelled =
        let first = first_number b bytes fields (ap fields_of (sym is) ∙ spelled) in
        let rest = drop place text in
        let whole : rest ≡ first.0 ++ (first.2 ++ drop (prefix_len is_inside rest) rest) =
        sym (take-append-drop (prefix_len is_inside rest) rest) ∙ ap (λ run. run ++ drop (prefix_len is_inside rest) rest) (is ∙ first.4)
        ∙ append_assoc first.0 first.2 (drop (prefix_len is_inside rest) rest) in
        let cut : slice_range text place (place + length first.0) ≡ first.0 =
        let back : place + length first.0 - place ≡ length first.0 = omega arith in
        ap (λ k. take k rest) back ∙ ap (take (length first.0)) whole
        ∙ take_at first.0 (first.2 ++ drop (prefix_len is_inside rest) rest) (length first.0) refl in
        absurd (none first.1 (place + length first.0)
        (omega (arith, length-drop place text, ap length whole, length-append first.0 (first.2 ++ drop (prefix_len is_inside rest) rest)))
        (subst (λ bytes. Spells bytes first.1) (sym cut) first.3))

-- ---- a whole segment

at_segment_end : (text : List ℕ) (place : ℕ) → length (segment_at text place) ≡ 0 → fields_at text place ≡ Some []
at_segment_end text place is = ap fields_of (nil_from_length (segment_at text place) is) ∙ no_bytes_no_fields

-- bytes that aren't none spell at least one field, if they spell fields
some_field : (bytes : List ℕ) → (length bytes ≡ 0 → ⊥) → (fields_of bytes ≡ None) ⊎ ((n : ℤ) × (ns : List ℤ) × (fields_of bytes ≡ Some (n ∷ ns)))
unfolding fields_of
some_field [] some = absurd (some refl)
some_field (b ∷ bytes) some = let first = first_cut b bytes in front_cases (number_of first.cut) (numbers_of first.cuts) (ap numbers_of first.is)
  where
    front_cases : (first : Option ℤ) (others : Option (List ℤ)) → fields_of (b ∷ bytes) ≡ list_with_front first others
        → (fields_of (b ∷ bytes) ≡ None) ⊎ ((n : ℤ) × (ns : List ℤ) × (fields_of (b ∷ bytes) ≡ Some (n ∷ ns)))
    front_cases None others is = inl is
    front_cases (Some n) None is = inl is
    front_cases (Some n) (Some ns) is = inr (n, ns, is)

no_fields_at : (text : List ℕ) (place : ℕ) → (length (segment_at text place) ≡ 0 → ⊥) → HasNoField text place → fields_at text place ≡ None
no_fields_at text place some none = ⊎_elim (λ is. is)
    (λ found. let bad : found.0 ∷ found.1 ≡ [] = subst (λ o. IfSome o (λ fields. fields ≡ [])) found.2 none in absurd (cc))
    (some_field (segment_at text place) some)

six_is_unknown : (n : ℕ) → (eqb (suc (suc (suc (suc (suc (suc n)))))) 1 || eqb (suc (suc (suc (suc (suc (suc n)))))) 4 || eqb
    (suc (suc (suc (suc (suc (suc n)))))) 5) ≡ false
six_is_unknown n = grind (arith, nat_tests)

module _ (text : List ℕ) where
  pub one_field : (place p1 : ℕ) (a : ℤ) → IsFieldAt text place a p1 → length (segment_at text p1) ≡ 0
      → IsSegmentAt text place (record { column = a; origin = None }) p1
  one_field place p1 a r1 end = record {
    fields = r1.fields
        ∙ ap (list_with_front (Some a)) (at_segment_end text p1 end);
    ends = omega (arith, r1.ends);
    inside = r1.inside;
  }

  pub four_fields : (place p1 p2 p3 p4 : ℕ) (a b c d : ℤ) → IsFieldAt text place a p1 → IsFieldAt text p1 b p2 → IsFieldAt text p2 c p3
      → IsFieldAt text p3 d p4 → length (segment_at text p4) ≡ 0
      → IsSegmentAt text place (record { column = a; origin = Some (record { source = b; line = c; column = d; name = None }) }) p4
  four_fields place p1 p2 p3 p4 a b c d r1 r2 r3 r4 end = record {
    fields = r1.fields ∙ ap (list_with_front (Some a))
        (r2.fields ∙ ap (list_with_front (Some b))
        (r3.fields ∙ ap (list_with_front (Some c)) (r4.fields ∙ ap (list_with_front (Some d)) (at_segment_end text p4 end))));
    ends = omega (arith, r1.ends, r2.ends, r3.ends, r4.ends);
    inside = r4.inside;
  }

  pub five_fields : (place p1 p2 p3 p4 p5 : ℕ) (a b c d e : ℤ) → IsFieldAt text place a p1 → IsFieldAt text p1 b p2 → IsFieldAt text p2 c p3
      → IsFieldAt text p3 d p4 → IsFieldAt text p4 e p5 → length (segment_at text p5) ≡ 0
      → IsSegmentAt text place (record { column = a; origin = Some (record { source = b; line = c; column = d; name = Some e }) }) p5
  five_fields place p1 p2 p3 p4 p5 a b c d e r1 r2 r3 r4 r5 end = record {
    fields = r1.fields ∙ ap (list_with_front (Some a))
        (r2.fields ∙ ap (list_with_front (Some b))
        (r3.fields ∙ ap (list_with_front (Some c))
        (r4.fields ∙ ap (list_with_front (Some d)) (r5.fields ∙ ap (list_with_front (Some e)) (at_segment_end text p5 end)))));
    ends = omega (arith, r1.ends, r2.ends, r3.ends, r4.ends, r5.ends);
    inside = r5.inside;
  }

  -- and where it isn't one, four or five
  pub not_two : (place p1 : ℕ) (a : ℤ) → IsFieldAt text place a p1 → (length (segment_at text p1) ≡ 0 → ⊥) → HasNoField text p1
      → has_known_length (known_fields text place) ≡ false
  not_two place p1 a r1 some none = ap (λ o. has_known_length (unwrap_or o [])) (r1.fields ∙ ap (list_with_front (Some a)) (no_fields_at text p1 some none))

  pub not_five : (place p1 p2 p3 p4 : ℕ) (a b c d : ℤ) → IsFieldAt text place a p1 → IsFieldAt text p1 b p2 → IsFieldAt text p2 c p3
      → IsFieldAt text p3 d p4 → (length (segment_at text p4) ≡ 0 → ⊥) → HasNoField text p4 → has_known_length (known_fields text place) ≡ false
  not_five place p1 p2 p3 p4 a b c d r1 r2 r3 r4 some none =
      ap (λ o. has_known_length (unwrap_or o []))
      (r1.fields ∙ ap (list_with_front (Some a))
      (r2.fields ∙ ap (list_with_front (Some b))
      (r3.fields ∙ ap (list_with_front (Some c)) (r4.fields ∙ ap (list_with_front (Some d)) (no_fields_at text p4 some none)))))

  pub not_six : (place p1 p2 p3 p4 p5 : ℕ) (a b c d e : ℤ) → IsFieldAt text place a p1 → IsFieldAt text p1 b p2 → IsFieldAt text p2 c p3
      → IsFieldAt text p3 d p4 → IsFieldAt text p4 e p5 → (length (segment_at text p5) ≡ 0 → ⊥) → has_known_length (known_fields text place) ≡ false
  not_six place p1 p2 p3 p4 p5 a b c d e r1 r2 r3 r4 r5 some =
      let all : fields_at text place ≡ list_with_front (Some a)
      (list_with_front (Some b) (list_with_front (Some c) (list_with_front (Some d) (list_with_front (Some e) (fields_at text p5))))) =
      r1.fields ∙ ap (list_with_front (Some a))
      (r2.fields ∙ ap (list_with_front (Some b)) (r3.fields ∙ ap (list_with_front (Some c)) (r4.fields ∙ ap (list_with_front (Some d)) r5.fields))) in
      ⊎_elim
      (λ is. ap (λ o. has_known_length (unwrap_or o []))
      (all ∙ ap (λ o. list_with_front (Some a) (list_with_front (Some b)
      (list_with_front (Some c) (list_with_front (Some d) (list_with_front (Some e) o))))) is))
      (λ found. ap (λ o. has_known_length (unwrap_or o []))
      (all ∙ ap (λ o. list_with_front (Some a) (list_with_front (Some b)
      (list_with_front (Some c) (list_with_front (Some d) (list_with_front (Some e) o))))) found.2)
      ∙ six_is_unknown (length found.1))
      (some_field (segment_at text p5) some)

-- ---- what the answer of reading a number says of the fields

-- a number was read
pub field_read : (text : List ℕ) (place : ℕ) (read : Result (ℤ × ℕ) VlqFault)
    → ((n : ℤ) (next : ℕ) → (read ≡ Ok (n, next)) ↔ ((next ≤ length text) × Spells (slice_range text place next) n))
    → IfSome (result_ok read) (λ r. IsFieldAt text place r.0 r.1)
field_read text place (Ok r) spelled = let is = (spelled r.0 r.1).0 refl in reads_field text place r.1 r.0 is.0 is.1
field_read text place (Err fault) spelled = tt

pub field_not_read : (text : List ℕ) (place : ℕ) → place ≤ length text → (read : Result (ℤ × ℕ) VlqFault)
    → ((n : ℤ) (next : ℕ) → (read ≡ Ok (n, next)) ↔ ((next ≤ length text) × Spells (slice_range text place next) n))
    → IfNone (result_ok read) (HasNoField text place)
field_not_read text place inside (Ok r) spelled = tt
field_not_read text place inside (Err fault) spelled =
    no_field text place inside (λ n next within spells. let bad : Err fault ≡ Ok (n, next) = (spelled n next).1 (within, spells) in absurd (cc))

-- a number has few digits
few_digits : (text : List ℕ) (place next : ℕ) (n : ℤ) → next ≤ length text → Spells (slice_range text place next) n → next ≤ place + 7
unfolding number_of
few_digits text place next n inside spells =
    let short : length (slice_range text place next) ≤ 7 =
    ltb-false _ _ (not-true _ (and_parts _ _ (and_parts _ _ (and_parts _ _ (cond_some _ _ _ spells).0).0).0).1) in
    omega (arith, length-take-le (next - place) (drop place text) (omega (arith, length-drop place text)))

pub field_few : (text : List ℕ) (place : ℕ) (read : Result (ℤ × ℕ) VlqFault)
    → ((n : ℤ) (next : ℕ) → (read ≡ Ok (n, next)) ↔ ((next ≤ length text) × Spells (slice_range text place next) n))
    → IfSome (result_ok read) (λ r. r.1 ≤ place + 7)
field_few text place (Ok r) spelled = let is = (spelled r.0 r.1).0 refl in few_digits text place r.1 r.0 is.0 is.1
field_few text place (Err fault) spelled = tt

-- ---- a byte that begins a segment

-- where fields are, the byte is no separator
pub field_is_inside : (text : List ℕ) (place : ℕ) (n : ℤ) (ns : List ℤ) → place < length text → fields_at text place ≡ Some (n ∷ ns)
    → is_inside (get_or text place 0) ≡ true
field_is_inside text place n ns within is =
    ⊎_elim
    (λ inside. inside)
    (λ separator.
    let none : segment_at text place ≡ [] = ap (take_while is_inside) (drop_more text place 0 within)
    ∙ take_while-cons is_inside (get_or text place 0) (drop (place + 1) text) ∙ cond-false _ _ _ separator in
    let both : Some (n ∷ ns) ≡ Some [] = sym is ∙ ap fields_of none ∙ no_bytes_no_fields in absurd (cc))
    (cases_Bool (is_inside (get_or text place 0)))

-- nor is it one where it spells a number by itself
pub number_is_inside : (byte : ℕ) (o : Option ℤ) → o ≡ number_of (byte ∷ []) → is_some o ≡ true → is_inside byte ≡ true
number_is_inside byte None is some = absurd (cc)
number_is_inside byte (Some n) is some = digit_is_inside byte (and_parts _ _ (spells_one (byte ∷ []) n (sym is))).0
