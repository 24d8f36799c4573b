-- The shortest spelling of a number spells it, and no other spelling of it has fewer digits.
use Rattle.std.proofs.Common.{◌≡◌, ℕ, ◌+◌, ◌-◌, ◌*◌, ◌/◌, ◌%◌, ◌^◌, ◌<◌, ◌≤◌, suc, zero, true, false, ltb, List, [], ◌∷◌, length, map, get_or, Some}
use Rattle.std.proofs.Common.{None, refl, sym, ap, subst, ◌∙◌, arith, zero-add, add-one, lt-ltb, le-ltb, ltb-true, eq-eqb, ne_eqb, ⊎_elim}
use Rattle.std.specs.Prelude.{ℤ, pos, negsuc, neg_ℤ, unsigned_abs}
use Rattle.std.specs.List.{AllByRecursion, range_with_len}
use Rattle.std.proofs.lemmas.Bool.{cond-true, cond-false, cases_lt, and_from, and_parts, not-true, not_from_false, both_ways}
use Rattle.std.proofs.lemmas.Option.{cond_some}
use Rattle.std.proofs.lemmas.List.FromFn.{get_or-map-range_with_len}
use Rattle.std.proofs.Math.Nat.{mul-le-mul_right, pow-suc}
use Rattle.smap_mappings.specs.Limits.{limit, most_digits}
use Rattle.smap_mappings.specs.Base64.{digit_of}
use Rattle.smap_mappings.specs.Vlq.{digit_value, is_digit, is_continuing, is_ending, is_one_number, digit_sum, unsigned_of, signed_number, number_of, Spells}
use Rattle.smap_mappings.specs.Canonical.{IsShortestSpelling, letter_of, digits_of, unsigned_number, shortest_spelling}
use Rattle.smap_mappings.proofs.Numbers.{continues_from, digit_value_is}
use Rattle.smap_mappings.proofs.SpelledNumbers.{one_number_nonempty}

-- ---- letters

same_letters : map (λ value. digit_of (letter_of value)) (range_with_len 0 64) ≡ map (λ value. Some value) (range_with_len 0 64)
unfolding digit_of
same_letters = refl

pub letter_is_digit : (value : ℕ) → value < 64 → digit_of (letter_of value) ≡ Some value
letter_is_digit value below =
    sym (get_or-map-range_with_len (λ v. digit_of (letter_of v)) 0 64 value value None below (zero-add value))
    ∙ ap (λ digits. get_or digits value None) same_letters
    ∙ get_or-map-range_with_len (λ v. Some v) 0 64 value value None below (zero-add value)

ascii_letters : map (λ value. ltb (letter_of value) 128) (range_with_len 0 64) ≡ map (λ value. true) (range_with_len 0 64)
ascii_letters = refl

pub letter_is_ascii : (value : ℕ) → value < 64 → letter_of value < 128
letter_is_ascii value below =
    ltb-true (letter_of value) 128 (
    sym (get_or-map-range_with_len (λ v. ltb (letter_of v) 128) 0 64 value value false below (zero-add value))
    ∙ ap (λ tests. get_or tests value false) ascii_letters
    ∙ get_or-map-range_with_len (λ v. true) 0 64 value value false below (zero-add value))

ends_from : (byte value : ℕ) → digit_of byte ≡ Some value → value < 32 → is_ending byte ≡ true
ends_from byte value is below = rw is (lt-ltb value 32 below)

-- ---- the digits of an unsigned value

pub one_number-cons : (byte : ℕ) (bytes : List ℕ) → is_continuing byte ≡ true → is_one_number bytes ≡ true → is_one_number (byte ∷ bytes) ≡ true
one_number-cons byte [] continues one = absurd (cc)
one_number-cons byte (next ∷ bytes) continues one = and_from _ _ continues one

-- the value without its last digit
quotient_below : (most unsigned : ℕ) → unsigned < 32 ^ suc (suc most) → unsigned / 32 < 32 ^ suc most
quotient_below most unsigned below = omega (arith, pow-suc 32 (suc most))

pub small_digits : (most unsigned : ℕ) → unsigned < 32 → digits_of (suc most) unsigned ≡ letter_of unsigned ∷ []
small_digits most unsigned small = cond-true _ _ _ (lt-ltb unsigned 32 small)

pub large_digits : (most unsigned : ℕ) → 32 ≤ unsigned → digits_of (suc most) unsigned ≡ letter_of (unsigned % 32 + 32) ∷ digits_of most (unsigned / 32)
large_digits most unsigned large = cond-false _ _ _ (le-ltb unsigned 32 large)

last_letter : (unsigned : ℕ) → unsigned < 32 → digit_of (letter_of unsigned) ≡ Some unsigned
last_letter unsigned small = letter_is_digit unsigned (omega arith)

first_letter : (unsigned : ℕ) → digit_of (letter_of (unsigned % 32 + 32)) ≡ Some (unsigned % 32 + 32)
first_letter unsigned = letter_is_digit (unsigned % 32 + 32) (omega arith)

digits_are_one : (most unsigned : ℕ) → unsigned < 32 ^ suc most → is_one_number (digits_of (suc most) unsigned) ≡ true
digits_are_one zero unsigned below = ap is_one_number (small_digits zero unsigned (omega arith))
    ∙ ends_from (letter_of unsigned) unsigned (last_letter unsigned (omega arith)) (omega arith)
digits_are_one (suc most) unsigned below =
    ⊎_elim
    (λ (small : unsigned < 32). ap is_one_number (small_digits (suc most) unsigned small)
    ∙ ends_from (letter_of unsigned) unsigned (last_letter unsigned small) small)
    (λ (large : 32 ≤ unsigned).
    ap is_one_number (large_digits (suc most) unsigned large)
    ∙ one_number-cons (letter_of (unsigned % 32 + 32)) (digits_of (suc most) (unsigned / 32))
    (continues_from _ (unsigned % 32 + 32) (first_letter unsigned) (omega arith))
    (digits_are_one most (unsigned / 32) (quotient_below most unsigned below)))
    (cases_lt unsigned 32)

regroup : (q r p : ℕ) → r * p + q * (p * 32) ≡ (32 * q + r) * p
regroup q r p = omega arith

weight_more : (i : ℕ) → 32 ^ (i + 1) ≡ 32 ^ i * 32
weight_more i = ap (λ n. 32 ^ n) (add-one i) ∙ pow-suc 32 i

small_sum : (i unsigned : ℕ) → unsigned < 32 → digit_sum i (letter_of unsigned ∷ []) ≡ unsigned * 32 ^ i
small_sum i unsigned small =
    let value = digit_value_is (letter_of unsigned) unsigned (last_letter unsigned small) in
    let same : unsigned % 32 ≡ unsigned = omega arith in
    ap (λ v. v % 32 * 32 ^ i + 0) value ∙ ap (λ v. v * 32 ^ i + 0) same ∙ omega arith

sum_of_digits : (most unsigned i : ℕ) → unsigned < 32 ^ suc most → digit_sum i (digits_of (suc most) unsigned) ≡ unsigned * 32 ^ i
sum_of_digits zero unsigned i below = ap (digit_sum i) (small_digits zero unsigned (omega arith)) ∙ small_sum i unsigned (omega arith)
sum_of_digits (suc most) unsigned i below =
    ⊎_elim
    (λ (small : unsigned < 32). ap (digit_sum i) (small_digits (suc most) unsigned small) ∙ small_sum i unsigned small)
    (λ (large : 32 ≤ unsigned).
    let q = unsigned / 32 in
    let r = unsigned % 32 in
    let value = digit_value_is (letter_of (r + 32)) (r + 32) (first_letter unsigned) in
    let low : (r + 32) % 32 ≡ r = omega arith in
    let whole : 32 * q + r ≡ unsigned = omega arith in
    ap (digit_sum i) (large_digits (suc most) unsigned large)
    ∙ (λ k. (ap (λ v. v % 32) value ∙ low) k * 32 ^ i + sum_of_digits most q (i + 1) (quotient_below most unsigned below) k)
    ∙ ap (λ w. r * 32 ^ i + q * w) (weight_more i)
    ∙ regroup q r (32 ^ i)
    ∙ ap (λ u. u * 32 ^ i) whole)
    (cases_lt unsigned 32)

digits_are_ascii : (most unsigned : ℕ) → AllByRecursion (λ byte. byte < 128) (digits_of most unsigned)
digits_are_ascii zero unsigned = tt
digits_are_ascii (suc most) unsigned =
    ⊎_elim
    (λ (small : unsigned < 32). subst (AllByRecursion (λ byte. byte < 128)) (sym (small_digits most unsigned small))
    (letter_is_ascii unsigned (omega arith), tt))
    (λ (large : 32 ≤ unsigned). subst (AllByRecursion (λ byte. byte < 128)) (sym (large_digits most unsigned large))
    (letter_is_ascii (unsigned % 32 + 32) (omega arith), digits_are_ascii most (unsigned / 32)))
    (cases_lt unsigned 32)

-- no fewer digits have room for the value
fewest_digits : (most unsigned count : ℕ) → unsigned < 32 ^ suc most → 0 < count → unsigned < 32 ^ count → length (digits_of (suc most) unsigned) ≤ count
fewest_digits zero unsigned count below some room = omega (arith, ap length (small_digits zero unsigned (omega arith)))
fewest_digits (suc most) unsigned zero below some room = absurd (omega arith)
fewest_digits (suc most) unsigned (suc zero) below some room = omega (arith, ap length (small_digits (suc most) unsigned (omega arith)))
fewest_digits (suc most) unsigned (suc (suc count)) below some room =
    ⊎_elim
    (λ (small : unsigned < 32). omega (arith, ap length (small_digits (suc most) unsigned small)))
    (λ (large : 32 ≤ unsigned).
    omega (
      arith,
      ap length (large_digits (suc most) unsigned large),
      fewest_digits most (unsigned / 32) (suc count) (quotient_below most unsigned below) (omega arith) (quotient_below count unsigned room),
    ))
    (cases_lt unsigned 32)

-- so many digits have room for what they count for
room_of_digits : (i : ℕ) (bytes : List ℕ) → digit_sum i bytes + 32 ^ i ≤ 32 ^ (i + length bytes)
room_of_digits i [] = let e : i + 0 ≡ i = omega arith in rw e (omega arith)
room_of_digits i (byte ∷ bytes) =
    let more = room_of_digits (i + 1) bytes in
    let places : i + suc (length bytes) ≡ i + 1 + length bytes = omega arith in
    let most : digit_value byte % 32 * 32 ^ i ≤ 31 * 32 ^ i = mul-le-mul_right (32 ^ i) (omega arith) in
    omega (arith, weight_more i, ap (λ n. 32 ^ n) places)

-- ---- signs

pub signed_of_unsigned : (n : ℤ) → signed_number (unsigned_number n) ≡ n
signed_of_unsigned (pos n) = let half : 2 * n / 2 ≡ n = omega arith in cond-true _ _ _ (eq-eqb (2 * n % 2) 0 (omega arith)) ∙ ap pos half
signed_of_unsigned (negsuc n) =
    let half : (2 * (n + 1) + 1) / 2 ≡ suc n = omega arith in
    cond-false _ _ _ (ne_eqb ((2 * (n + 1) + 1) % 2) 0 (λ e. absurd (omega arith))) ∙ ap (λ m. neg_ℤ (pos m)) half

unsigned_of_signed : (u : ℕ) (n : ℤ) → (u ≡ 1 → ⊥) → signed_number u ≡ n → u ≡ unsigned_number n
unsigned_of_signed u n not_one is =
    ⊎_elim
    (λ (even : u % 2 < 1).
    let whole : u ≡ 2 * (u / 2) = omega arith in
    whole ∙ ap unsigned_number (sym (cond-true _ _ _ (eq-eqb (u % 2) 0 (omega arith))) ∙ is))
    (λ (odd : 1 ≤ u % 2).
    let half : u / 2 ≡ suc (u / 2 - 1) = omega arith in
    let whole : u ≡ 2 * (u / 2 - 1 + 1) + 1 = omega arith in
    whole ∙ ap unsigned_number (ap (λ m. neg_ℤ (pos m)) (sym half) ∙ sym (cond-false _ _ _ (ne_eqb (u % 2) 0 (λ e. absurd (omega arith)))) ∙ is))
    (cases_lt (u % 2) 1)

pub magnitude_of_unsigned : (n : ℤ) → unsigned_number n / 2 ≡ unsigned_abs n
magnitude_of_unsigned (pos n) = omega arith
magnitude_of_unsigned (negsuc n) = omega arith

never_one : (n : ℤ) → unsigned_number n ≡ 1 → ⊥
never_one (pos n) is = omega arith
never_one (negsuc n) is = omega arith

-- ---- the shortest spelling

-- a number of at most the limit's magnitude has room in seven digits
pub unsigned_has_room : (n : ℤ) → unsigned_abs n ≤ limit → unsigned_number n < 32 ^ 7
unsigned_has_room n small = let room : 34359738368 ≡ 32 ^ 7 = refl in omega (arith, magnitude_of_unsigned n)

pub unsigned_of_shortest : (n : ℤ) → unsigned_abs n ≤ limit → unsigned_of (shortest_spelling n) ≡ unsigned_number n
unfolding unsigned_of shortest_spelling
unsigned_of_shortest n small = sum_of_digits 6 (unsigned_number n) 0 (unsigned_has_room n small) ∙ omega arith

-- a shortest spelling is one number, of one to seven digits
pub shortest_is_one : (n : ℤ) → unsigned_abs n ≤ limit → is_one_number (shortest_spelling n) ≡ true
unfolding shortest_spelling
shortest_is_one n small = digits_are_one 6 (unsigned_number n) (unsigned_has_room n small)

pub shortest_has_few : (n : ℤ) → unsigned_abs n ≤ limit → (count : ℕ) → 0 < count → unsigned_number n < 32 ^ count → length (shortest_spelling n) ≤ count
unfolding shortest_spelling
shortest_has_few n small count some room = fewest_digits 6 (unsigned_number n) count (unsigned_has_room n small) some room

pub shortest_is_short : (n : ℤ) → unsigned_abs n ≤ limit → length (shortest_spelling n) ≤ 7
shortest_is_short n small = shortest_has_few n small 7 (omega arith) (unsigned_has_room n small)

pub shortest_is_nonempty : (n : ℤ) → unsigned_abs n ≤ limit → 0 < length (shortest_spelling n)
shortest_is_nonempty n small = one_number_nonempty (shortest_spelling n) (shortest_is_one n small)

pub one_number_digits : (bytes : List ℕ) → is_one_number bytes ≡ true → AllByRecursion (λ byte. is_digit byte ≡ true) bytes
one_number_digits [] one = tt
one_number_digits (byte ∷ []) one = ((and_parts _ _ one).0, tt)
one_number_digits (byte ∷ next ∷ bytes) one = let parts = and_parts _ _ one in ((and_parts _ _ parts.0).0, one_number_digits (next ∷ bytes) parts.1)

-- each byte of it is a digit, and so neither `;` nor `,`
pub shortest_digits : (n : ℤ) → unsigned_abs n ≤ limit → AllByRecursion (λ byte. is_digit byte ≡ true) (shortest_spelling n)
shortest_digits n small = one_number_digits (shortest_spelling n) (shortest_is_one n small)

pub shortest_is_ascii : (n : ℤ) → AllByRecursion (λ byte. byte < 128) (shortest_spelling n)
unfolding shortest_spelling
shortest_is_ascii n = digits_are_ascii 7 (unsigned_number n)

pub shortest_spells : (n : ℤ) → unsigned_abs n ≤ limit → Spells (shortest_spelling n) n
unfolding number_of
shortest_spells n small =
    let bytes = shortest_spelling n in
    let unsigned = unsigned_of_shortest n small in
    let short = le-ltb most_digits (length bytes) (shortest_is_short n small) in
    let in_range = le-ltb limit (unsigned_of bytes / 2) (omega (arith, ap (λ u. u / 2) unsigned, magnitude_of_unsigned n)) in
    let no_zero = ne_eqb (unsigned_of bytes) 1 (λ e. never_one n (sym unsigned ∙ e)) in
    cond-true _ _ _ (and_from _ _ (and_from _ _ (and_from _ _ (shortest_is_one n small) (not_from_false _ short))
    (not_from_false _ in_range)) (not_from_false _ no_zero))
    ∙ ap Some (ap signed_number unsigned ∙ signed_of_unsigned n)

-- two spellings of a number have the same unsigned value
pub unsigned_of_spelling : (bytes : List ℕ) (n : ℤ) → Spells bytes n → unsigned_of bytes ≡ unsigned_number n
unfolding number_of
unsigned_of_spelling bytes n spells =
    let test = cond_some _ _ _ spells in
    let parts = and_parts _ _ test.0 in
    unsigned_of_signed (unsigned_of bytes) n (λ e. both_ways _ (not-true _ parts.1) (eq-eqb _ _ e)) test.1

pub has_room : (bytes : List ℕ) → unsigned_of bytes < 32 ^ length bytes
unfolding unsigned_of
has_room bytes = omega (arith, room_of_digits 0 bytes, ap (λ n. 32 ^ n) (zero-add (length bytes)))

pub shortest_is_shortest : (n : ℤ) → unsigned_abs n ≤ limit → IsShortestSpelling (shortest_spelling n) n
unfolding number_of
shortest_is_shortest n small = record {
  spells = shortest_spells n small;
  fewest = λ other spells.
      let one = (and_parts _ _ (and_parts _ _ (and_parts _ _ (cond_some _ _ _ spells).0).0).0).0 in
      shortest_has_few n small (length other) (one_number_nonempty other one) (omega (arith, has_room other, unsigned_of_spelling other n spells));
}
