-- The pairs of a line stand in their order.
use Rattle.std.proofs.Common.{◌≡◌, ◌≤◌, ◌+◌, ◌-◌, ℕ, zero, suc, List, [], ◌∷◌, Option, Some, None, cond, true, false, Bool, drop, length, refl, ap, arith, subst}
use Rattle.smap_pairs.specs.Numbers.{numbers_after}
use Rattle.smap_pairs.specs.Pairs.{AreInOrder, address_size, goes_on, pair_numbers, pairs_by, pairs_from, pairs_of, unless_going_on}
use Rattle.smap_pairs.specs.Laws.NumberReach.{no_numbers, numbers_size, numbers_some, third}

pub no_pair : pair_numbers [] ≡ None
unfolding pair_numbers
no_pair = ap (unless_going_on []) no_numbers

-- how many bytes a pair has
pub record IsSized (text : List ℕ) (size : ℕ) : Type 0 where
  pub some : 1 ≤ size
  pub within : size ≤ length text

pub pair_size : (text : List ℕ) (line column size : ℕ) → pair_numbers text ≡ Some (line, column, size) → IsSized text size
unfolding pair_numbers
pair_size text line column size is = go (numbers_after text) refl is
  where
    chosen : (b : Bool) (numbers : ℕ × ℕ × ℕ) → cond b None (Some numbers) ≡ Some (line, column, size) → third (Some numbers) ≡ size
    chosen true numbers is = cc
    chosen false numbers is = ap third is

    go : (o : Option (ℕ × ℕ × ℕ)) → numbers_after text ≡ o → unless_going_on text o ≡ Some (line, column, size) → IsSized text size
    go None from is = cc
    go (Some (l, c, n)) from is =
        let same = chosen (goes_on (drop n text)) (l, c, n) is in
        record {
          some = omega (arith, same, numbers_some text (l, c, n) from);
          within = omega (arith, same, numbers_size text (l, c, n) from);
        }

pub in_order : (at piece within : ℕ) (text : List ℕ) → piece ≤ at + within → AreInOrder piece (at + length text) (pairs_from at piece within text)
unfolding pairs_from
in_order at piece within [] low = tt
in_order at piece (suc within) (byte ∷ text) low =
    let same : suc at + length text ≡ at + suc (length text) = omega arith in
    subst (λ bytes. AreInOrder piece bytes (pairs_from (suc at) piece within text)) same (in_order (suc at) piece within text (omega (arith, low)))
in_order at piece zero (byte ∷ text) low = go (pair_numbers (byte ∷ text)) refl (λ piece within low. in_order (suc at) piece within text low)
  where
    go : (o : Option (ℕ × ℕ × ℕ)) → pair_numbers (byte ∷ text) ≡ o
        → ((piece within : ℕ) → piece ≤ suc at + within → AreInOrder piece (suc at + length text) (pairs_from (suc at) piece within text))
        → AreInOrder piece (at + suc (length text)) (pairs_by at piece (address_size (byte ∷ text)) (λ piece within. pairs_from (suc at) piece within text) o)
    go None is more =
        let same : suc at + length text ≡ at + suc (length text) = omega arith in
        subst (λ bytes. AreInOrder piece bytes (pairs_from (suc at) piece (address_size (byte ∷ text) - 1) text)) same
        (more piece (address_size (byte ∷ text) - 1) (omega (arith, low)))
    go (Some (line, column, size)) is more =
        let same : suc at + length text ≡ at + suc (length text) = omega arith in
        let sized = pair_size (byte ∷ text) line column size is in (
          refl,
          omega (arith, low),
          omega (arith, sized.some),
          omega (arith, sized.within),
          subst (λ bytes. AreInOrder (at + size) bytes (pairs_from (suc at) (at + size) (size - 1) text)) same
              (more (at + size) (size - 1) (omega (arith, sized.some))),
        )

pub are_in_order : (line : List ℕ) → AreInOrder 0 (length line) (pairs_of line)
are_in_order line = let same : 0 + length line ≡ length line = omega arith in
    subst (λ bytes. AreInOrder 0 bytes (pairs_of line)) same (in_order 0 0 0 line (omega arith))
