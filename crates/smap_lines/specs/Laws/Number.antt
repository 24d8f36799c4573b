-- Laws of printed numbers, for all who read a line or a column: they are what is printed, and are read back.
use Rattle.std.proofs.Common.{◌≡◌, ◌&&◌, ◌+◌, ◌-◌, ◌*◌, ◌^◌, ◌<◌, ◌≤◌, ℕ, Bool, true, false, cond, leb, ltb, List, [], ◌∷◌, length}
use Rattle.std.proofs.Common.{get_or, Option, Some, None, refl, sym, ap, ◌∙◌, arith, rules, zero, suc}
use Rattle.std.specs.Char.{is_ascii_digit}
use Rattle.std.specs.Fmt.{decimal}
use Rattle.std.specs.Str.{all_ascii_digits}
use Rattle.std.proofs.lemmas.Bool.{and_parts, and_from, cond-true, leb-true, le-leb, lt-ltb, ltb-true}
use Rattle.std.proofs.lemmas.Fmt.{decimal_digit, decimal-digits_value, digits_decimal, digits_value-decimal, first_decimal}
use Rattle.std.proofs.lemmas.Str.Parse.{IsNumeralModel, numerals_by_fold}
use Rattle.smap_lines.specs.Numbers.{IsPrinted, decimal_number, read_on}

pub none_else : {A : Type 0} (b : Bool) (o : Option A) (y : A) → cond b o None ≡ Some y → (b ≡ true) × (o ≡ Some y)
none_else true o y e = (refl, e)
none_else false o y e = cc

-- the number that these digits write after those of n
abbrev value_on : ℕ → List ℕ → ℕ
value_on n [] = n
value_on n (c ∷ cs) = value_on (10 * n + (c - 48)) cs

abbrev pub AreDigits : List ℕ → Type 0
AreDigits ds = all_ascii_digits ds ≡ true

own : IsNumeralModel AreDigits (value_on 0)
own = numerals_by_fold _ (search rules) value_on (search rules)

value_ge : (n : ℕ) (cs : List ℕ) → n ≤ value_on n cs
value_ge n [] = omega arith
value_ge n (c ∷ cs) = omega (arith, value_ge (10 * n + (c - 48)) cs)

read_is : (n : ℕ) (text : List ℕ) (m : ℕ) → n ≤ 2147483648 → read_on n text ≡ Some m → AreDigits text × (value_on n text ≡ m) × (m ≤ 2147483648)
read_is n [] m small is = let e : n ≡ m = cc in (refl, e, omega arith)
read_is n (c ∷ cs) m small is =
    let parts = none_else (is_ascii_digit c && leb (10 * n + (c - 48)) 2147483648) (read_on (10 * n + (c - 48)) cs) m is in
    let tests = and_parts (is_ascii_digit c) (leb (10 * n + (c - 48)) 2147483648) parts.0 in
    let more = read_is (10 * n + (c - 48)) cs m (leb-true _ _ tests.1) parts.1 in
    (and_from (is_ascii_digit c) (all_ascii_digits cs) tests.0 more.0, more.1, more.2)

reads : (n : ℕ) (text : List ℕ) → AreDigits text → value_on n text ≤ 2147483648 → read_on n text ≡ Some (value_on n text)
reads n [] digits small = refl
reads n (c ∷ cs) digits small =
    let parts = and_parts (is_ascii_digit c) (all_ascii_digits cs) digits in
    let within : 10 * n + (c - 48) ≤ 2147483648 = omega (arith, value_ge (10 * n + (c - 48)) cs) in
    cond-true (is_ascii_digit c && leb (10 * n + (c - 48)) 2147483648) (read_on (10 * n + (c - 48)) cs) None (and_from _ _ parts.0 (le-leb _ _ within))
    ∙ reads (10 * n + (c - 48)) cs parts.1 small

nonempty : (text : List ℕ) → 48 < get_or text 0 0 → 0 < length text
nonempty [] first = absurd (omega arith)
nonempty (c ∷ text) first = omega arith

-- what is read is what is printed
pub number_is : (text : List ℕ) (n : ℕ) → decimal_number text ≡ Some n → (text ≡ decimal n) × IsPrinted n
number_is text n is =
    let parts = none_else (ltb 48 (get_or text 0 0)) (read_on 0 text) n is in
    let first : 48 < get_or text 0 0 = ltb-true _ _ parts.0 in
    let read = read_is 0 text n (omega arith) parts.1 in
    let printed : decimal (value_on 0 text) ≡ text =
    decimal-digits_value own text read.0 (nonempty text first) (λ zero. absurd (omega arith)) (omega (arith, read.1, read.2)) in
    let whole : text ≡ decimal n = sym printed ∙ ap decimal read.1 in
    (whole, (positive n whole first, read.2))
  where
    positive : (m : ℕ) → text ≡ decimal m → 48 < get_or text 0 0 → 1 ≤ m
    positive zero e first = let at : get_or text 0 0 ≡ 48 = ap (λ l. get_or l 0 0) (e ∙ decimal_digit 0 (omega arith)) in absurd (omega arith)
    positive (suc m) e first = omega arith

-- what is printed is read back
pub number_reads : (n : ℕ) → IsPrinted n → decimal_number (decimal n) ≡ Some n
number_reads n printed =
    let small : n < 2 ^ 64 = omega arith in
    let same : value_on 0 (decimal n) ≡ n = digits_value-decimal own n small in
    cond-true (ltb 48 (get_or (decimal n) 0 0)) (read_on 0 (decimal n)) None (lt-ltb _ _ (first_decimal n (omega arith) small))
    ∙ reads 0 (decimal n) (digits_decimal own n small) (omega arith) ∙ ap Some same

-- what is printed is digits
pub printed_digits : (n : ℕ) → IsPrinted n → AreDigits (decimal n)
printed_digits n printed = digits_decimal own n (omega arith)
