-- The digits of an unsigned value, one after another.
use Rattle.std.proofs.Common.{◌≡◌, ℕ, zero, suc, ◌+◌, ◌/◌, ◌%◌, ◌^◌, ◌<◌, ◌≤◌, List, [], ◌∷◌, ◌++◌, length, sym, ap, ◌∙◌, arith, ltb}
use Rattle.std.proofs.Math.Nat.{pow-suc}
use Rattle.std.proofs.lemmas.List.{append_assoc}
use Rattle.std.proofs.lemmas.Bool.{cond_both}
use Rattle.smap_mappings.specs.Canonical.{letter_of, digits_of}
use Rattle.smap_mappings.proofs.ShortestLaws.{small_digits, large_digits}

-- a value below 32 has one digit
pub last_digit : (k u : ℕ) → 0 < k → u < 32 → digits_of k u ≡ letter_of u ∷ []
last_digit zero u some below = absurd (omega arith)
last_digit (suc k) u some below = small_digits k u below

-- what is left of a value after its first digit
pub record HasMoreDigits (k u : ℕ) : Type 0 where
  pub left : ℕ
  pub some : 0 < left
  pub below : u / 32 < 32 ^ left
  pub digits : digits_of k u ≡ letter_of (u % 32 + 32) ∷ digits_of left (u / 32)

pub more_digits : (k u : ℕ) → u < 32 ^ k → 32 ≤ u → HasMoreDigits k u
more_digits zero u below at_least = absurd (omega arith)
more_digits (suc zero) u below at_least = absurd (omega arith)
more_digits (suc (suc k)) u below at_least =
    let weight = pow-suc 32 (suc k) in
    record {
      left = suc k;
      some = omega arith;
      below = omega (arith, weight);
      digits = large_digits (suc k) u at_least;
    }

pub few_digits : (k u : ℕ) → length (digits_of k u) ≤ k
few_digits zero u = omega arith
few_digits (suc k) u =
    let more = few_digits k (u / 32) in
    cond_both (ltb u 32) (letter_of u ∷ []) (letter_of (u % 32 + 32) ∷ digits_of k (u / 32)) (λ (digits : List ℕ). length digits ≤ suc k)
    (λ _. omega arith) (λ _. omega arith)

-- one letter more is written, and one fewer left
pub written_more : (out new : List ℕ) (byte letter : ℕ) {digits left : List ℕ} → new ≡ out ++ byte ∷ [] → byte ≡ letter
    → digits ≡ letter ∷ left → new ++ left ≡ out ++ digits
written_more out new byte letter {digits} {left} pushed is more =
    ap (λ items. items ++ left) pushed ∙ append_assoc out (byte ∷ []) left ∙ ap (λ b. out ++ b ∷ left) is ∙ ap (λ d. out ++ d) (sym more)
