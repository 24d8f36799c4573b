-- A spelling in which no byte is needless is the shortest one of its number.
use Rattle.std.proofs.Common.{◌≡◌, ℕ, zero, suc, ◌+◌, ◌*◌, ◌/◌, ◌%◌, ◌^◌, ◌<◌, ◌≤◌, true, false, eqb, List, [], ◌∷◌, ◌++◌, length, map}
use Rattle.std.proofs.Common.{refl, sym, ap, ◌∙◌, arith, eqb-true, eq-eqb, ltb-true, ltb-false, leb-true}
use Rattle.std.specs.Prelude.{ℤ}
use Rattle.std.specs.List.{concat}
use Rattle.std.proofs.lemmas.Bool.{and_parts, and_from, or_parts, not-true, both_ways}
use Rattle.std.proofs.lemmas.Option.{cond_some}
use Rattle.std.proofs.lemmas.List.Quantifiers.{position-Some}
use Rattle.std.proofs.Math.Nat.{pow-suc}
use Rattle.smap_mappings.specs.Limits.{most_digits}
use Rattle.smap_mappings.specs.Base64.{alphabet, digit_of}
use Rattle.smap_mappings.specs.Vlq.{digit_value, is_digit, is_continuing, is_one_number, digit_sum, unsigned_of, number_of, Spells}
use Rattle.smap_mappings.specs.Segment.{AreSpellingsOf}
use Rattle.smap_mappings.specs.Canonical.{letter_of, digits_of, shortest_spelling}
use Rattle.smap_mappings.specs.Needless.{is_needless}
use Rattle.smap_mappings.proofs.Numbers.{digit_value_is}
use Rattle.smap_mappings.proofs.SpelledNumbers.{digit_from_is_digit}
use Rattle.smap_mappings.proofs.ShortestLaws.{small_digits, large_digits, unsigned_of_spelling}

-- ---- digits and their letters

-- a digit is the letter of its value, which is below 64
pub record IsLetter (byte : ℕ) : Type 0 where
  pub letter : letter_of (digit_value byte) ≡ byte
  pub below : digit_value byte < 64

pub digit_is_letter : (byte : ℕ) → is_digit byte ≡ true → IsLetter byte
unfolding digit_of
digit_is_letter byte is =
    let found = digit_from_is_digit byte is in
    let at = position-Some (λ letter. eqb letter byte) alphabet found.0 0 found.1 in
    let value = digit_value_is byte found.0 found.1 in
    record { letter = ap letter_of value ∙ eqb-true _ _ at.1; below = omega (arith, at.0, value) }

-- ---- one spelling

-- none of these bytes is needless, the first of which stands behind this one
abbrev pub AreNeeded : ℕ → List ℕ → Type 0
AreNeeded before [] = Unit {0}
AreNeeded before (byte ∷ bytes) = (is_needless before byte ≡ false) × AreNeeded byte bytes

-- the last digit of a number that has more than one isn't 0
no_last_zero : (before byte : ℕ) → is_continuing before ≡ true → is_digit byte ≡ true → is_needless before byte ≡ false → 0 < digit_value byte
no_last_zero before byte goes_on digit needed = at_value (digit_value byte) refl
  where
    at_value : (value : ℕ) → digit_value byte ≡ value → 0 < digit_value byte
    at_value zero is =
        let letter : byte ≡ 65 = sym (digit_is_letter byte digit).letter ∙ ap letter_of is in
        absurd (both_ways _ (or_parts _ _ (or_parts _ _ needed).0).0 (and_from _ _ (eq-eqb byte 65 letter) goes_on))
    at_value (suc value) is = omega (arith, is)

-- the digits' sum, one digit further
sum_further : (i : ℕ) (bytes : List ℕ) → digit_sum (i + 1) bytes ≡ 32 * digit_sum i bytes
sum_further i [] = refl
sum_further i (byte ∷ bytes) =
    let more : 32 ^ (i + 1) ≡ 32 ^ i * 32 = ap (λ n. 32 ^ n) (omega arith) ∙ pow-suc 32 i in
    (λ k. digit_value byte % 32 * more k + sum_further (i + 1) bytes k)
    ∙ regroup (digit_value byte % 32) (32 ^ i) (digit_sum (i + 1) bytes)
  where
    regroup : (d w s : ℕ) → d * (w * 32) + 32 * s ≡ 32 * (d * w + s)
    regroup d w s = omega arith

sum_first : (byte : ℕ) (bytes : List ℕ) → digit_sum 0 (byte ∷ bytes) ≡ digit_value byte % 32 + 32 * digit_sum 0 bytes
sum_first byte bytes = (λ k. digit_value byte % 32 * 1 + sum_further 0 bytes k) ∙ omega arith

-- the digits of a number after its first say something, and so it isn't below 32
rest_is_some : (before : ℕ) (bytes : List ℕ) → is_continuing before ≡ true → is_one_number bytes ≡ true → AreNeeded before bytes → 0 < digit_sum 0 bytes
rest_is_some before [] goes_on one needed = absurd (cc)
rest_is_some before (byte ∷ []) goes_on one needed =
    let some = no_last_zero before byte goes_on (and_parts _ _ one).0 needed.0 in
    let low = ltb-true (digit_value byte) 32 (and_parts _ _ one).1 in
    omega (arith, sum_first byte [])
rest_is_some before (byte ∷ next ∷ bytes) goes_on one needed =
    let parts = and_parts _ _ one in
    omega (arith, sum_first byte (next ∷ bytes), rest_is_some byte (next ∷ bytes) parts.0 parts.1 needed.1)

digits_back : (most before : ℕ) (bytes : List ℕ) → is_one_number bytes ≡ true → AreNeeded before bytes → length bytes ≤ most
    → digits_of most (digit_sum 0 bytes) ≡ bytes
digits_back most before [] one needed few = absurd (cc)
digits_back zero before (byte ∷ bytes) one needed few = absurd (omega arith)
digits_back (suc most) before (byte ∷ []) one needed few =
    let low = ltb-true (digit_value byte) 32 (and_parts _ _ one).1 in
    let sum : digit_sum 0 (byte ∷ []) ≡ digit_value byte = omega (arith, sum_first byte []) in
    ap (digits_of (suc most)) sum ∙ small_digits most (digit_value byte) low
    ∙ ap (λ b. b ∷ []) (digit_is_letter byte (and_parts _ _ one).0).letter
digits_back (suc most) before (byte ∷ next ∷ bytes) one needed few =
    let parts = and_parts _ _ one in
    let digit = and_parts _ _ parts.0 in
    let letter = digit_is_letter byte digit.0 in
    let high = leb-true 32 (digit_value byte) digit.1 in
    let below = letter.below in
    let rest = digit_sum 0 (next ∷ bytes) in
    let sum = sum_first byte (next ∷ bytes) in
    let some = rest_is_some byte (next ∷ bytes) parts.0 parts.1 needed.1 in
    let first : digit_sum 0 (byte ∷ next ∷ bytes) % 32 + 32 ≡ digit_value byte = omega (arith, sum) in
    let others : digit_sum 0 (byte ∷ next ∷ bytes) / 32 ≡ rest = omega (arith, sum) in
    large_digits most (digit_sum 0 (byte ∷ next ∷ bytes)) (omega (arith, sum))
    ∙ (λ k. (ap letter_of first ∙ letter.letter) k ∷ (ap (digits_of most) others ∙ digits_back most byte (next ∷ bytes) parts.1 needed.1 (omega arith)) k)

pub needed_is_shortest : (before : ℕ) (bytes : List ℕ) (n : ℤ) → Spells bytes n → AreNeeded before bytes → shortest_spelling n ≡ bytes
unfolding number_of shortest_spelling unsigned_of
needed_is_shortest before bytes n spells needed =
    let tests = and_parts _ _ (and_parts _ _ (and_parts _ _ (cond_some _ _ _ spells).0).0).0 in
    let short : length bytes ≤ 7 = ltb-false _ _ (not-true _ tests.1) in
    ap (digits_of most_digits) (sym (unsigned_of_spelling bytes n spells)) ∙ digits_back 7 before bytes tests.0 needed short

-- ---- spellings that are joined

pub needed_front : (before : ℕ) (front rest : List ℕ) → AreNeeded before (front ++ rest) → AreNeeded before front
needed_front before [] rest needed = tt
needed_front before (byte ∷ front) rest needed = (needed.0, needed_front byte front rest needed.1)

pub needed_rest : (before : ℕ) (front rest : List ℕ) → AreNeeded before (front ++ rest) → (last : ℕ) × AreNeeded last rest
needed_rest before [] rest needed = (before, needed)
needed_rest before (byte ∷ front) rest needed = needed_rest byte front rest needed.1

pub joined_back : (before : ℕ) (spellings : List (List ℕ)) (numbers : List ℤ) → AreSpellingsOf spellings numbers → AreNeeded before (concat spellings)
    → concat (map shortest_spelling numbers) ≡ concat spellings
joined_back before [] [] spell needed = refl
joined_back before [] (n ∷ numbers) spell needed = absurd spell
joined_back before (bytes ∷ spellings) [] spell needed = absurd spell
joined_back before (bytes ∷ spellings) (n ∷ numbers) spell needed =
    let rest = needed_rest before bytes (concat spellings) needed in
    λ k. needed_is_shortest before bytes n spell.0 (needed_front before bytes (concat spellings) needed) k
    ++ joined_back rest.0 spellings numbers spell.1 rest.1 k
