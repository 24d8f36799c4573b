-- What a line or a column ends in, and what does not stand in it.
use Rattle.std.proofs.Common.{◌≡◌, ◌≢◌, ◌==◌, ◌<◌, ℕ, true, leb, List, [], ◌∷◌, ◌++◌, length, None, refl, sym, ap, ◌∙◌, arith, ◌⊎◌, inr, append_assoc}
use Rattle.std.specs.Char.{is_ascii_digit}
use Rattle.std.specs.Fmt.{decimal}
use Rattle.std.specs.Str.{all_ascii_digits}
use Rattle.std.proofs.lemmas.Bool.{and_parts, leb-true, ne_eqb, or_from}
use Rattle.std.proofs.lemmas.Fmt.{decimal_nonempty}
use Rattle.smap_lines.specs.Laws.Number.{AreDigits, printed_digits}
use Rattle.smap_lines.specs.Numbers.{IsPrinted}
use Rattle.smap_trace.specs.Cuts.{without_last}
use Rattle.smap_trace.specs.FrameOf.{ends_in_digit}
use Rattle.smap_trace.proofs.CutLaws.{is_without, last_is_other}

digit_is_other : (byte c : ℕ) → (byte < 48) ⊎ (57 < byte) → is_ascii_digit c ≡ true → c ≢ byte
digit_is_other byte c outside digit same = let parts = and_parts (leb 48 c) (leb c 57) digit
    in absurd (omega (arith, leb-true 48 c parts.0, leb-true c 57 parts.1))

-- no `:` stands in a number
digits_without : (byte : ℕ) (ds : List ℕ) → (byte < 48) ⊎ (57 < byte) → AreDigits ds → is_without byte ds
digits_without byte [] outside digits = refl
digits_without byte (c ∷ ds) outside digits =
    let parts = and_parts (is_ascii_digit c) (all_ascii_digits ds) digits in
    or_from (c == byte) _ (ne_eqb c byte (digit_is_other byte c outside parts.0)) (digits_without byte ds outside parts.1)

pub number_without : (n : ℕ) → IsPrinted n → is_without 58 (decimal n)
number_without n printed = digits_without 58 (decimal n) (inr (omega arith)) (printed_digits n printed)

-- a text that ends in a number ends in no other byte
digits_end : (byte : ℕ) (front ds : List ℕ) → (byte < 48) ⊎ (57 < byte) → AreDigits ds → 0 < length ds → without_last byte (front ++ ds) ≡ None
digits_end byte front [] outside digits some = absurd (omega arith)
digits_end byte front (c ∷ []) outside digits some = last_is_other byte c front (digit_is_other byte c outside (and_parts (is_ascii_digit c) true digits).0)
digits_end byte front (c ∷ d ∷ ds) outside digits some =
    ap (without_last byte) (sym (append_assoc front (c ∷ []) (d ∷ ds)))
    ∙ digits_end byte (front ++ c ∷ []) (d ∷ ds) outside (and_parts (is_ascii_digit c) (all_ascii_digits (d ∷ ds)) digits).1 (omega arith)

pub number_ends : (byte : ℕ) (front : List ℕ) (n : ℕ) → (byte < 48) ⊎ (57 < byte) → IsPrinted n → without_last byte (front ++ decimal n) ≡ None
number_ends byte front n outside printed = digits_end byte front (decimal n) outside (printed_digits n printed) (decimal_nonempty n (omega arith))

-- it ends in a digit
pub last_digit : (front : List ℕ) (c : ℕ) → ends_in_digit (front ++ c ∷ []) ≡ is_ascii_digit c
last_digit [] c = refl
last_digit (x ∷ []) c = refl
last_digit (x ∷ y ∷ front) c = last_digit (y ∷ front) c

digits_last : (front ds : List ℕ) → AreDigits ds → 0 < length ds → ends_in_digit (front ++ ds) ≡ true
digits_last front [] digits some = absurd (omega arith)
digits_last front (c ∷ []) digits some = last_digit front c ∙ (and_parts (is_ascii_digit c) true digits).0
digits_last front (c ∷ d ∷ ds) digits some =
    ap ends_in_digit (sym (append_assoc front (c ∷ []) (d ∷ ds)))
    ∙ digits_last (front ++ c ∷ []) (d ∷ ds) (and_parts (is_ascii_digit c) (all_ascii_digits (d ∷ ds)) digits).1 (omega arith)

pub number_last_digit : (front : List ℕ) (n : ℕ) → IsPrinted n → ends_in_digit (front ++ decimal n) ≡ true
number_last_digit front n printed = digits_last front (decimal n) (printed_digits n printed) (decimal_nonempty n (omega arith))
