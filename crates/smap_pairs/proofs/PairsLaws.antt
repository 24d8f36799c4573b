-- The pairs of a text, from its first byte on.
use Rattle.std.proofs.Common.{◌≡◌, ◌≤◌, ◌<◌, ◌+◌, ◌-◌, ◌==◌, ℕ, zero, suc, true, false, List, [], ◌∷◌, Some, None, drop, length}
use Rattle.std.proofs.Common.{get_or, max, refl, sym, ap, ◌∙◌, arith, drop-drop}
use Rattle.std.proofs.Math.Seq.{drop-length, drop-nil}
use Rattle.std.proofs.lemmas.Bool.{cond-false, eqb-true, eq-eqb, false_from_ne_true}
use Rattle.smap_pairs.specs.Numbers.{numbers_after, with_line}
use Rattle.smap_pairs.specs.Pairs.{address_size, pair_numbers, pairs_behind, pairs_by, pairs_from, unless_going_on}
use Rattle.smap_pairs.specs.Laws.Pairs.{no_pair}

-- at a byte that is no `:` there is none
no_pair_at : (byte : ℕ) (text : List ℕ) → (byte == 58) ≡ false → pair_numbers (byte ∷ text) ≡ None
unfolding pair_numbers numbers_after
no_pair_at byte text other =
    ap (λ o. unless_going_on (byte ∷ text) (with_line (byte ∷ text) o)) (cond-false (byte == 58) _ None other)

no_address_at : (byte : ℕ) (text : List ℕ) → (byte == 58) ≡ false → address_size (byte ∷ text) ≡ 0
unfolding address_size
no_address_at byte text other =
    let off : (58 == byte) ≡ false = false_from_ne_true _ (λ is. absurd (cc (other, eq-eqb byte 58 (sym (eqb-true 58 byte is))))) in
    simp off

step : (at piece byte : ℕ) (text : List ℕ) → pairs_from at piece 0 (byte ∷ text)
    ≡ pairs_by at piece (address_size (byte ∷ text)) (λ piece within. pairs_from (suc at) piece within text) (pair_numbers (byte ∷ text))
unfolding pairs_from
step at piece byte text = refl

none_left : (at piece within : ℕ) → pairs_from at piece within [] ≡ []
unfolding pairs_from
none_left at piece within = refl

further : (at piece within byte : ℕ) (text : List ℕ) → pairs_from at piece (suc within) (byte ∷ text) ≡ pairs_from (suc at) piece within text
unfolding pairs_from
further at piece within byte text = refl

-- bytes that belong to a pair or an address
pub pairs_within : (at piece within : ℕ) (text : List ℕ) → pairs_from at piece within text ≡ pairs_from (at + within) piece 0 (drop within text)
pairs_within at piece within [] = none_left at piece within ∙ sym (ap (pairs_from (at + within) piece 0) (drop-nil within) ∙ none_left (at + within) piece 0)
pairs_within at piece zero (byte ∷ text) = let same : at ≡ at + 0 = omega arith in ap (λ a. pairs_from a piece 0 (byte ∷ text)) same
pairs_within at piece (suc within) (byte ∷ text) =
    let same : suc at + within ≡ at + suc within = omega arith in
    further at piece within byte text ∙ pairs_within (suc at) piece within text ∙ ap (λ a. pairs_from a piece 0 (drop within text)) same

-- bytes that no pair begins with
else_at : (at piece byte : ℕ) (text : List ℕ) → pair_numbers (byte ∷ text) ≡ None
    → pairs_from at piece 0 (byte ∷ text) ≡ pairs_from (suc at) piece (address_size (byte ∷ text) - 1) text
else_at at piece byte text none =
    step at piece byte text ∙ ap (pairs_by at piece (address_size (byte ∷ text)) (λ piece within. pairs_from (suc at) piece within text)) none

pub pairs_else : (at piece : ℕ) (text : List ℕ) → pair_numbers text ≡ None
    → pairs_from at piece 0 text ≡ pairs_from (at + max (address_size text) 1) piece 0 (drop (max (address_size text) 1) text)
pairs_else at piece [] none = pairs_within' at piece (max (address_size []) 1)
  where
    pairs_within' : (at piece bytes : ℕ) → pairs_from at piece 0 [] ≡ pairs_from (at + bytes) piece 0 (drop bytes [])
    pairs_within' at piece bytes = none_left at piece 0 ∙ sym (ap (pairs_from (at + bytes) piece 0) (drop-nil bytes) ∙ none_left (at + bytes) piece 0)
pairs_else at piece (byte ∷ text) none =
    let bytes = address_size (byte ∷ text) in
    let one : suc (address_size (byte ∷ text) - 1) ≡ max (address_size (byte ∷ text)) 1 = omega arith in
    let same : suc at + (address_size (byte ∷ text) - 1) ≡ at + max (address_size (byte ∷ text)) 1 = omega arith in
    else_at at piece byte text none ∙ pairs_within (suc at) piece (bytes - 1) text
    ∙ ap (λ a. pairs_from a piece 0 (drop (bytes - 1) text)) same
    ∙ ap (λ k. pairs_from (at + max bytes 1) piece 0 (drop k (byte ∷ text))) one

-- bytes without a `:`
pub pairs_past : (bytes at piece : ℕ) (text : List ℕ) → ((i : ℕ) → i < bytes → (get_or text i 0 == 58) ≡ true → ⊥)
    → pairs_from at piece 0 text ≡ pairs_from (at + bytes) piece 0 (drop bytes text)
pairs_past zero at piece text none = let same : at ≡ at + 0 = omega arith in ap (λ a. pairs_from a piece 0 text) same
pairs_past (suc bytes) at piece [] none = none_left at piece 0 ∙ sym (none_left (at + suc bytes) piece 0)
pairs_past (suc bytes) at piece (byte ∷ text) none =
    let other : (byte == 58) ≡ false = false_from_ne_true _ (none 0 (omega arith)) in
    let same : suc at + bytes ≡ at + suc bytes = omega arith in
    else_at at piece byte text (no_pair_at byte text other)
    ∙ ap (λ a. pairs_from (suc at) piece (a - 1) text) (no_address_at byte text other)
    ∙ pairs_past bytes (suc at) piece text (λ i below. none (suc i) (omega (arith, below)))
    ∙ ap (λ a. pairs_from a piece 0 (drop bytes text)) same

-- a pair
pub pairs_here : (at piece line column size : ℕ) (text : List ℕ) → pair_numbers text ≡ Some (line, column, size) → 0 < size
    → pairs_from at piece 0 text
    ≡ record { start = at; end = at + size; piece = piece; line = line; column = column } ∷ pairs_from (at + size) (at + size) 0 (drop size text)
pairs_here at piece line column size [] is some = absurd (cc (no_pair, is))
pairs_here at piece line column size (byte ∷ text) is some =
    let one : suc (size - 1) ≡ size = omega (arith, some) in
    let same : suc at + (size - 1) ≡ at + size = omega (arith, some) in
    step at piece byte text
    ∙ ap (pairs_by at piece (address_size (byte ∷ text)) (λ piece within. pairs_from (suc at) piece within text)) is
    ∙ ap (λ pairs. record { start = at; end = at + size; piece = piece; line = line; column = column } ∷ pairs)
    (pairs_within (suc at) (at + size) (size - 1) text
    ∙ ap (λ a. pairs_from a (at + size) 0 (drop (size - 1) text)) same
    ∙ ap (λ k. pairs_from (at + size) (at + size) 0 (drop k (byte ∷ text))) one)

-- ---- in a line, from a byte on

-- up to a `:`
pub behind_colon : (line : List ℕ) (piece at bytes : ℕ) → pairs_behind line piece ≡ pairs_from at piece 0 (drop at line)
    → ((i : ℕ) → i < bytes → (get_or (drop at line) i 0 == 58) ≡ true → ⊥) → pairs_behind line piece ≡ pairs_from (at + bytes) piece 0 (drop (at + bytes) line)
behind_colon line piece at bytes left none =
    left ∙ pairs_past bytes at piece (drop at line) none ∙ ap (pairs_from (at + bytes) piece 0) (drop-drop bytes at line)

-- where no pair begins at that
pub behind_other : (line : List ℕ) (piece start more : ℕ) → pairs_behind line piece ≡ pairs_from start piece 0 (drop start line)
    → pair_numbers (drop start line) ≡ None → more ≡ max (address_size (drop start line)) 1
    → pairs_behind line piece ≡ pairs_from (start + more) piece 0 (drop (start + more) line)
behind_other line piece start more left none is =
    left ∙ pairs_else start piece (drop start line) none
    ∙ ap (λ k. pairs_from (start + k) piece 0 (drop k (drop start line))) (sym is) ∙ ap (pairs_from (start + more) piece 0) (drop-drop more start line)

-- where one does
pub behind_pair : (line : List ℕ) (piece start row column size : ℕ) → pairs_behind line piece ≡ pairs_from start piece 0 (drop start line)
    → pair_numbers (drop start line) ≡ Some (row, column, size) → 0 < size → pairs_behind line piece
    ≡ record { start = start; end = start + size; piece = piece; line = row; column = column } ∷ pairs_behind line (start + size)
behind_pair line piece start row column size left is some =
    left ∙ pairs_here start piece row column size (drop start line) is some
    ∙ ap (λ text. record { start = start; end = start + size; piece = piece; line = row; column = column } ∷ pairs_from (start + size) (start + size) 0 text)
    (drop-drop size start line)

-- where no `:` is left
pub behind_all : (line : List ℕ) (piece at : ℕ) → pairs_behind line piece ≡ pairs_from at piece 0 (drop at line) → at ≤ length line
    → ((i : ℕ) → i < length (drop at line) → (get_or (drop at line) i 0 == 58) ≡ true → ⊥) → pairs_behind line piece ≡ []
behind_all line piece at left within none =
    left ∙ pairs_past (length (drop at line)) at piece (drop at line) none
    ∙ ap (pairs_from (at + length (drop at line)) piece 0) (drop-length (drop at line)) ∙ none_left (at + length (drop at line)) piece 0
