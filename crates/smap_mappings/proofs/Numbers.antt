-- What reading a number gives, by cases on the first byte that is no digit that continues.
use Rattle.std.proofs.Common.{◌≡◌, ℕ, ◌+◌, ◌-◌, ◌*◌, ◌/◌, ◌%◌, ◌^◌, ◌<◌, ◌≤◌, suc, Bool, true, false, not, cond, eqb, ltb, List, [], ◌∷◌, ◌++◌}
use Rattle.std.proofs.Common.{length, get_or, take, drop, Some, None, Result, Ok, Err, refl, sym, ap, subst, ◌∙◌, arith, length-drop, length-take-le}
use Rattle.std.proofs.Common.{zero, zero-add, lit≤, get_or-drop, lt-ltb, le-ltb, eq-eqb, ne_eqb, le-leb}
use Rattle.std.proofs.lemmas.Bool.Decides.{nat_tests}
use Rattle.std.proofs.lemmas.Bool.{cond-true, cond-false, eqb-false, lt-leb}
use Rattle.std.proofs.lemmas.List.{take_more}
use Rattle.std.specs.Prelude.{ℤ, pos, neg_ℤ, ◌-ℤ◌}
use Rattle.std.proofs.Common.{to_z, of_z, w32}
use Rattle.std.proofs.lemmas.Int.{ints, to_z_pos}
use Rattle.std.proofs.Math.Nat.{mul-le-mul_right}
use Rattle.std.proofs.lemmas.List.Sums.{prefix_len-drop_yes, prefix_len-drop_no, prefix_len-drop_all, prefix_len-le-length}
use Rattle.smap_mappings.specs.Limits.{limit}
use Rattle.smap_mappings.specs.Base64.{digit_of}
use Rattle.smap_mappings.specs.Vlq.{digit_value, is_digit, is_continuing, digit_sum, unsigned_of, signed_number, number_at}
use Rattle.smap_mappings.specs.Private.Reading.{front_at, checked_number, number_with_end, long_fault}
use Rattle.smap_mappings.specs.declared.vlq.VlqFault.{VlqFault}
use Rattle.smap_mappings.specs.declared.vlq.VlqFault.TheVariants.{BadDigit, Unended, TooLong, TooLarge, NegativeZero}

-- ---- the number of an unsigned value

pub checked_too_large : (u : ℕ) → limit < u / 2 → checked_number u ≡ Err TooLarge
unfolding checked_number
checked_too_large u large = cond-true _ _ _ (lt-ltb limit (u / 2) large)

pub checked_negative_zero : (u : ℕ) → u ≡ 1 → checked_number u ≡ Err NegativeZero
unfolding checked_number
checked_negative_zero u is_one = rw is_one refl

pub checked_signed : (u : ℕ) → u / 2 ≤ limit → (u ≡ 1 → ⊥) → checked_number u ≡ Ok (signed_number u)
unfolding checked_number
checked_signed u small not_one = cond-false _ _ _ (le-ltb limit (u / 2) small) ∙ cond-false _ _ _ (ne_eqb u 1 not_one)

-- the code's numbers as the definition has them
pub signed_even : (u : ℕ) → u / 2 ≤ limit → u % 2 ≡ 0 → to_z w32 (u / 2) ≡ signed_number u
signed_even u small even = to_z_pos w32 (u / 2) (omega arith) ∙ sym (cond-true _ _ _ (eq-eqb (u % 2) 0 even))

pub signed_odd : (u : ℕ) → u / 2 ≤ limit → (u % 2 ≡ 0 → ⊥) → to_z w32 (of_z w32 (pos 0 -ℤ to_z w32 (u / 2))) ≡ signed_number u
signed_odd u small odd =
    let plain : to_z w32 (of_z w32 (pos 0 -ℤ to_z w32 (u / 2))) ≡ neg_ℤ (pos (u / 2)) = omega (arith, ints) in
    plain ∙ sym (cond-false _ _ _ (ne_eqb (u % 2) 0 odd))

-- ---- digits

pub continues_from : (byte value : ℕ) → digit_of byte ≡ Some value → 32 ≤ value → is_continuing byte ≡ true
continues_from byte value is at_least = rw is (le-leb 32 value at_least)

pub stops_from : (byte value : ℕ) → digit_of byte ≡ Some value → value < 32 → is_continuing byte ≡ false
stops_from byte value is below = rw is (lt-leb 32 value below)

pub stops_at_none : (byte : ℕ) → digit_of byte ≡ None → is_continuing byte ≡ false
stops_at_none byte is = rw is refl

pub is_digit_from : (byte value : ℕ) → digit_of byte ≡ Some value → is_digit byte ≡ true
is_digit_from byte value is = rw is refl

pub no_digit_from : (byte : ℕ) → digit_of byte ≡ None → is_digit byte ≡ false
no_digit_from byte is = rw is refl

pub digit_value_is : (byte value : ℕ) → digit_of byte ≡ Some value → digit_value byte ≡ value
digit_value_is byte value is = rw is refl

-- ---- reading at a place

end_of_tests : (a b : Bool) (n : ℤ) (end : ℕ)
    → ◌≡◌ {A = Result (ℤ × ℕ) VlqFault} (cond a (Err TooLarge) (cond b (Err NegativeZero) (Ok (n, end))))
    (number_with_end end (cond a (Err TooLarge) (cond b (Err NegativeZero) (Ok n))))
end_of_tests true b n end = refl
end_of_tests false true n end = refl
end_of_tests false false n end = refl

module _ (bytes : List ℕ) (place end : ℕ) where
  -- the front ends where a byte is no digit that continues
  pub at_unended : place + front_at bytes place ≡ length bytes → number_at bytes place ≡ Err Unended
  unfolding number_at
  at_unended whole =
      let all : front_at bytes place ≡ length (drop place bytes) = omega (arith, length-drop place bytes) in
      cond-true _ _ _ (eq-eqb _ _ all)

  byte_at_end : place + front_at bytes place ≡ end → get_or (drop place bytes) (front_at bytes place) 0 ≡ get_or bytes end 0
  byte_at_end is = get_or-drop place bytes (front_at bytes place) 0 ∙ ap (λ i. get_or bytes i 0) is

  before_the_end : place + front_at bytes place ≡ end → end < length bytes → eqb (front_at bytes place) (length (drop place bytes)) ≡ false
  before_the_end is within = ne_eqb _ _ (λ e. absurd (omega (arith, length-drop place bytes)))

  pub at_bad_digit : place + front_at bytes place ≡ end → end < length bytes → digit_of (get_or bytes end 0) ≡ None → number_at bytes place ≡ Err BadDigit
  unfolding number_at
  at_bad_digit is within none =
      cond-false _ _ _ (before_the_end is within) ∙ cond-true _ _ _ (ap (λ byte. not (is_digit byte)) (byte_at_end is) ∙ ap not (no_digit_from _ none))

  pub at_number : (value : ℕ) → place + front_at bytes place ≡ end → end < length bytes → digit_of (get_or bytes end 0) ≡ Some value
      → front_at bytes place < 7 → number_at bytes place
      ≡ number_with_end (end + 1) (checked_number (digit_sum 0 (take (front_at bytes place + 1) (drop place bytes))))
  unfolding number_at checked_number unsigned_of
  at_number value is within some short =
      cond-false _ _ _ (before_the_end is within)
      ∙ cond-false _ _ _ (ap (λ byte. not (is_digit byte)) (byte_at_end is) ∙ ap not (is_digit_from _ value some))
      ∙ cond-false _ _ _ (le-ltb 7 (length (take (front_at bytes place + 1) (drop place bytes)))
      (omega (arith, length-take-le (front_at bytes place + 1) (drop place bytes) (omega (arith, length-drop place bytes)))))
      ∙ end_of_tests _ _ (signed_number (digit_sum 0 (take (front_at bytes place + 1) (drop place bytes)))) (place + front_at bytes place + 1)
      ∙ ap (λ n. number_with_end (n + 1) (checked_number (digit_sum 0 (take (front_at bytes place + 1) (drop place bytes))))) is

-- the same for the fault of a number that goes on past its seventh digit
module _ (bytes : List ℕ) (place end : ℕ) where
  pub long_unended : place + front_at bytes place ≡ length bytes → Unended ≡ long_fault bytes place
  unfolding long_fault
  long_unended whole =
      let all : front_at bytes place ≡ length (drop place bytes) = omega (arith, length-drop place bytes) in
      sym (cond-true _ _ _ (eq-eqb _ _ all))

  pub long_bad_digit : place + front_at bytes place ≡ end → end < length bytes → digit_of (get_or bytes end 0) ≡ None → BadDigit ≡ long_fault bytes place
  unfolding long_fault
  long_bad_digit is within none =
      sym (cond-false _ _ _ (before_the_end bytes place end is within)
      ∙ cond-true _ _ _ (ap (λ byte. not (is_digit byte)) (byte_at_end bytes place end is) ∙ ap not (no_digit_from _ none)))

  pub long_too_long : (value : ℕ) → place + front_at bytes place ≡ end → end < length bytes → digit_of (get_or bytes end 0) ≡ Some value
      → TooLong ≡ long_fault bytes place
  unfolding long_fault
  long_too_long value is within some =
      sym (cond-false _ _ _ (before_the_end bytes place end is within)
      ∙ cond-false _ _ _ (ap (λ byte. not (is_digit byte)) (byte_at_end bytes place end is) ∙ ap not (is_digit_from _ value some)))

err_of_tests : (a b c : Bool) (x y z : VlqFault) (w : Result (ℤ × ℕ) VlqFault) → (a ≡ false → c ≡ true)
    → cond a (Err x) (cond b (Err y) (cond c (Err z) w)) ≡ Err (cond a x (cond b y z))
err_of_tests true b c x y z w long = refl
err_of_tests false true c x y z w long = refl
err_of_tests false false c x y z w long = cond-true c (Err z) w (long refl)

same_eqb : (a b c d : ℕ) → (a ≡ b → c ≡ d) → (c ≡ d → a ≡ b) → eqb a b ≡ eqb c d
same_eqb a b c d to from = grind (arith, nat_tests)

-- past the seventh digit, the rest decides which fault it is
pub at_long : (bytes : List ℕ) (place end : ℕ) → front_at bytes place ≡ 7 + front_at bytes end → end ≡ place + 7 → end ≤ length bytes
    → number_at bytes place ≡ Err (long_fault bytes end)
unfolding number_at long_fault
at_long bytes place end front is within =
    let same_end : eqb (front_at bytes place) (length (drop place bytes)) ≡ eqb (front_at bytes end) (length (drop end bytes)) =
    same_eqb _ _ _ _ (λ e. omega (arith, length-drop place bytes, length-drop end bytes))
    (λ e. omega (arith, length-drop place bytes, length-drop end bytes)) in
    let same_byte : get_or (drop place bytes) (front_at bytes place) 0 ≡ get_or (drop end bytes) (front_at bytes end) 0 =
    get_or-drop place bytes (front_at bytes place) 0 ∙ ap (λ i. get_or bytes i 0) (omega arith) ∙ sym (get_or-drop end bytes (front_at bytes end) 0) in
    let long : eqb (front_at bytes place) (length (drop place bytes)) ≡ false
    → ltb 7 (length (take (front_at bytes place + 1) (drop place bytes))) ≡ true = λ more. lt-ltb _ _ (long_digits more) in
    err_of_tests _ _ _ Unended BadDigit TooLong _ long ∙ (λ i. Err (cond (same_end i) Unended (cond (not (is_digit (same_byte i))) BadDigit TooLong)))
  where
    long_digits : eqb (front_at bytes place) (length (drop place bytes)) ≡ false → 7 < length (take (front_at bytes place + 1) (drop place bytes))
    long_digits more =
        let other = eqb-false (front_at bytes place) (length (drop place bytes)) more in
        let few = prefix_len-le-length is_continuing (drop place bytes) in
        omega (arith, length-take-le (front_at bytes place + 1) (drop place bytes) (omega arith))

-- ---- a loop's step over the bytes from the place on

-- the front goes on by a digit that continues, and ends at any other byte and at the end
pub front_more : (bytes : List ℕ) (end value : ℕ) → end < length bytes → digit_of (get_or bytes end 0) ≡ Some value → 32 ≤ value
    → front_at bytes end ≡ 1 + front_at bytes (end + 1)
front_more bytes end value within some at_least = prefix_len-drop_yes is_continuing bytes end 0 within (continues_from _ value some at_least)

pub front_stops : (bytes : List ℕ) (end value : ℕ) → end < length bytes → digit_of (get_or bytes end 0) ≡ Some value → value < 32 → front_at bytes end ≡ 0
front_stops bytes end value within some below = prefix_len-drop_no is_continuing bytes end 0 within (stops_from _ value some below)

pub front_stops_at_none : (bytes : List ℕ) (end : ℕ) → end < length bytes → digit_of (get_or bytes end 0) ≡ None → front_at bytes end ≡ 0
front_stops_at_none bytes end within none = prefix_len-drop_no is_continuing bytes end 0 within (stops_at_none _ none)

pub front_at_the_end : (bytes : List ℕ) (end : ℕ) → length bytes ≤ end → front_at bytes end ≡ 0
front_at_the_end bytes end past = prefix_len-drop_all is_continuing bytes end past

-- ---- what the digits count for

-- a weight of at most seven digits leaves room in 64 bits
pub scale_below : (k : ℕ) → k < 7 → 32 ^ k ≤ 1073741824
scale_below zero h = lit≤ tt
scale_below (suc zero) h = lit≤ tt
scale_below (suc (suc zero)) h = lit≤ tt
scale_below (suc (suc (suc zero))) h = lit≤ tt
scale_below (suc (suc (suc (suc zero)))) h = lit≤ tt
scale_below (suc (suc (suc (suc (suc zero))))) h = lit≤ tt
scale_below (suc (suc (suc (suc (suc (suc zero)))))) h = lit≤ tt
scale_below (suc (suc (suc (suc (suc (suc (suc k))))))) h = absurd (omega arith)

-- one more digit keeps the number below the next weight
pub digit_step : (unsigned digit scale : ℕ) → unsigned < scale → digit < 32 → unsigned + digit * scale < scale * 32
digit_step unsigned digit scale below small =
    let most : digit * scale ≤ 31 * scale = mul-le-mul_right scale (omega arith) in
    omega arith

pub digit_product : (digit scale : ℕ) → scale ≤ 1073741824 → digit < 32 → digit * scale ≤ 33285996544
digit_product digit scale low small =
    let most : digit * scale ≤ 31 * scale = mul-le-mul_right scale (omega arith) in
    omega arith

pub digit_sum-push : (i : ℕ) (bytes : List ℕ) (byte : ℕ)
    → digit_sum i (bytes ++ byte ∷ []) ≡ digit_sum i bytes + digit_value byte % 32 * 32 ^ (i + length bytes)
digit_sum-push i [] byte = let e : i + 0 ≡ i = omega arith in rw e (omega arith)
digit_sum-push i (b ∷ bytes) byte =
    let more = digit_sum-push (i + 1) bytes byte in
    let places : i + 1 + length bytes ≡ i + suc (length bytes) = omega arith in
    let more' : digit_sum (i + 1) (bytes ++ byte ∷ []) ≡ digit_sum (i + 1) bytes + digit_value byte % 32 * 32 ^ (i + suc (length bytes)) =
    subst (λ n. digit_sum (i + 1) (bytes ++ byte ∷ []) ≡ digit_sum (i + 1) bytes + digit_value byte % 32 * 32 ^ n) places more in
    omega arith

-- the first k bytes of a rest and the next one
pub digit_sum_more : (bytes : List ℕ) (place end k value : ℕ) → end ≡ place + k → end < length bytes
    → digit_of (get_or bytes end 0) ≡ Some value → digit_sum 0 (take (k + 1) (drop place bytes)) ≡ digit_sum 0 (take k (drop place bytes)) + value % 32 * 32 ^ k
digit_sum_more bytes place end k value is within some =
    let inside : k < length (drop place bytes) = omega (arith, length-drop place bytes) in
    let byte_is : get_or (drop place bytes) k 0 ≡ get_or bytes end 0 = get_or-drop place bytes k 0 ∙ ap (λ i. get_or bytes i 0) (sym is) in
    ap (digit_sum 0) (take_more (drop place bytes) k 0 inside)
    ∙ digit_sum-push 0 (take k (drop place bytes)) (get_or (drop place bytes) k 0)
    ∙ ap (λ n. digit_sum 0 (take k (drop place bytes)) + digit_value (get_or (drop place bytes) k 0) % 32 * 32 ^ n)
    (zero-add _ ∙ length-take-le k (drop place bytes) (omega arith))
    ∙ ap (λ v. digit_sum 0 (take k (drop place bytes)) + v % 32 * 32 ^ k) (ap digit_value byte_is ∙ digit_value_is _ value some)

-- a digit that ends a number of at most seven: the number is what the digits so far and it count for
pub at_last_digit : (bytes : List ℕ) (place end unsigned digit scale value : ℕ) → place ≤ end → place + front_at bytes place ≡ end
    → end < length bytes → digit_of (get_or bytes end 0) ≡ Some value → end - place < 7
    → unsigned ≡ digit_sum 0 (take (end - place) (drop place bytes)) → scale ≡ 32 ^ (end - place) → digit ≡ value % 32
    → number_at bytes place ≡ number_with_end (end + 1) (checked_number (unsigned + digit * scale))
at_last_digit bytes place end unsigned digit scale value from front within some short unsigned_is scale_is digit_is =
    let k_is : front_at bytes place ≡ end - place = omega arith in
    let more = digit_sum_more bytes place end (end - place) value (omega arith) within some in
    let all : digit_sum 0 (take (front_at bytes place + 1) (drop place bytes)) ≡ unsigned + digit * scale =
    ap (λ k. digit_sum 0 (take (k + 1) (drop place bytes))) k_is ∙ more ∙ (λ i. sym unsigned_is i + sym digit_is i * sym scale_is i) in
    at_number bytes place end value front within some (omega arith) ∙ ap (λ u. number_with_end (end + 1) (checked_number u)) all

-- two digits, of which the first continues and the second ends
pub at_two_digits : (bytes : List ℕ) (place low high : ℕ) → place + 1 < length bytes → digit_of (get_or bytes place 0) ≡ Some low → 32 ≤ low
    → digit_of (get_or bytes (place + 1) 0) ≡ Some high → high < 32
    → number_at bytes place ≡ number_with_end (place + 2) (checked_number (low % 32 + high * 32))
at_two_digits bytes place low high within low_is at_least high_is below =
    let more = front_more bytes place low (omega arith) low_is at_least in
    let stops = front_stops bytes (place + 1) high within high_is below in
    let one : place + 1 - place ≡ 1 = omega arith in
    let first : digit_sum 0 (take 1 (drop place bytes)) ≡ low % 32 = digit_sum_more bytes place place 0 low (omega arith) (omega arith) low_is ∙ omega arith in
    at_last_digit bytes place (place + 1) (low % 32) high 32 high (omega arith) (omega arith) within high_is (omega arith)
    (sym (ap (λ k. digit_sum 0 (take k (drop place bytes))) one ∙ first)) (sym (ap (λ k. 32 ^ k) one)) (omega arith)
    ∙ ap (λ end. number_with_end end (checked_number (low % 32 + high * 32))) (omega arith)
