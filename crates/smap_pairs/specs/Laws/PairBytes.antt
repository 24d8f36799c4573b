-- The bytes of a pair and of an address: in neither begins another.
use Rattle.std.proofs.Common.{◌≡◌, ◌≤◌, ◌<◌, ◌+◌, ◌-◌, ◌==◌, ◌&&◌, ◌||◌, ℕ, zero, suc, Bool, true, false, List, [], ◌∷◌, ◌++◌, Option, Some, None, codes, cond}
use Rattle.std.proofs.Common.{drop, get_or, nat_eq, take, refl, sym, ap, ◌∙◌, arith, ◌⊎◌, inl, inr, subst, drop-drop}
use Rattle.std.specs.Char.{is_ascii_digit}
use Rattle.std.specs.List.{starts_with}
use Rattle.std.proofs.lemmas.Bool.{cases_lt, eqb-true}
use Rattle.std.proofs.lemmas.Bool.Decides.{Decides-eqb}
use Rattle.std.proofs.lemmas.List.{get_or-drop, get_or-take, length-take}
use Rattle.std.proofs.lemmas.List.Sums.{prefix_len-le-length, prefix_len_passes}
use Rattle.std.proofs.lemmas.Slice.Eq.{starts_is}
use Rattle.smap_pairs.specs.Numbers.{number_after, numbers_after, with_column, with_line}
use Rattle.smap_pairs.specs.declared.pairs.Pair.{Pair}
use Rattle.smap_pairs.specs.Pairs.{IsPairOf, address_length, address_size, goes_on, is_address_byte, pair_numbers, unless_going_on}
use Rattle.smap_pairs.specs.Laws.NumberReach.{number_colon, number_digits}

-- ---- the bytes of an address

pub record IsAddress (text : List ℕ) : Type 0 where
  pub first : get_or text 0 0 ≡ 58
  pub second : get_or text 1 0 ≡ 47
  pub third : get_or text 2 0 ≡ 47
  pub fourth : get_or text 3 0 ≡ 91
  pub size_is : address_size text ≡ address_length (drop 4 text) + 5
  pub last : get_or text (address_length (drop 4 text) + 4) 0 ≡ 93

pub address_is : (text : List ℕ) → 1 ≤ address_size text → IsAddress text
unfolding address_size
address_is text some = go (starts_with nat_eq text (codes "://[")) (get_or text (address_length (drop 4 text) + 4) 0 == 93) refl refl some
  where
    go : (begins ends : Bool) → starts_with nat_eq text (codes "://[") ≡ begins → (get_or text (address_length (drop 4 text) + 4) 0 == 93) ≡ ends
        → 1 ≤ cond (begins && ends) (address_length (drop 4 text) + 5) 0 → IsAddress text
    go false ends begins ended some = absurd (omega (arith, some))
    go true false begins ended some = absurd (omega (arith, some))
    go true true begins ended some =
        let whole : text ≡ codes "://[" ++ drop 4 text = (starts_is Decides-eqb text (codes "://[") _ refl).0 begins in
        record {
          first = ap (λ t. get_or t 0 0) whole;
          second = ap (λ t. get_or t 1 0) whole;
          third = ap (λ t. get_or t 2 0) whole;
          fourth = ap (λ t. get_or t 3 0) whole;
          size_is = ap (λ b. cond b (address_length (drop 4 text) + 5) 0)
              (ap (λ b. b && (get_or text (address_length (drop 4 text) + 4) 0 == 93)) begins ∙ ended);
          last = eqb-true _ 93 ended;
        }

address_byte : (text : List ℕ) (i : ℕ) → i < address_length (drop 4 text) → is_address_byte (get_or text (i + 4) 0) ≡ true
address_byte text i below =
    let few : i < 64 = omega (arith, below, prefix_len-le-length is_address_byte (take 64 (drop 4 text)), length-take 64 (drop 4 text)) in
    let same : 4 + i ≡ i + 4 = omega arith in
    ap (λ k. is_address_byte (get_or text k 0)) (sym same)
    ∙ ap is_address_byte (sym (get_or-take 64 (drop 4 text) i 0 few ∙ get_or-drop 4 text i 0))
    ∙ prefix_len_passes is_address_byte (take 64 (drop 4 text)) i 0 below

byte_at : (text : List ℕ) (k i n : ℕ) → get_or (drop k text) i 0 ≡ n → get_or text (k + i) 0 ≡ n
byte_at text k i n is = sym (get_or-drop k text i 0) ∙ is

-- in an address begins no other
pub address_alone : (text : List ℕ) (k : ℕ) → 1 ≤ k → k < address_size text → 1 ≤ address_size (drop k text) → ⊥
address_alone text k some within other =
    let one = address_is text (omega (arith, some, within)) in
    let two = address_is (drop k text) other in
    let here = byte_at text k 0 58 two.first in
    let next = byte_at text k 1 47 two.second in
    let at = λ (i : ℕ) (same : k + 0 ≡ i). ap (λ i. get_or text i 0) same in
    elim (cases_lt k 4) [
      | inl early ↦ elim (cases_lt k 2) [
        | inl first ↦ omega (arith, here, one.second, at 1 (omega (arith, some, first)))
        | inr later ↦ elim (cases_lt k 3) [
          | inl second ↦ omega (arith, here, one.third, at 2 (omega (arith, later, second)))
          | inr third ↦ omega (arith, here, one.fourth, at 3 (omega (arith, early, third)))
        ]
      ]
      | inr late ↦ elim (cases_lt (k + 1) (address_length (drop 4 text) + 4)) [
        | inl inside ↦
            let same : k + 1 - 4 + 4 ≡ k + 1 = omega (arith, late) in
            let passes = address_byte text (k + 1 - 4) (omega (arith, late, inside)) in
            let byte : get_or text (k + 1 - 4 + 4) 0 ≡ 47 = ap (λ i. get_or text i 0) same ∙ next in
            let wrong : is_address_byte 47 ≡ true = ap is_address_byte (sym byte) ∙ passes in
            absurd (cc wrong)
        | inr outside ↦ elim (cases_lt k (address_length (drop 4 text) + 4)) [
          | inl before ↦
              let same : k + 1 ≡ address_length (drop 4 text) + 4 = omega (arith, before, outside) in
              omega (arith, next, one.last, ap (λ i. get_or text i 0) same)
          | inr behind ↦
              let same : k + 0 ≡ address_length (drop 4 text) + 4 = omega (arith, behind, within, one.size_is) in
              omega (arith, here, one.last, at (address_length (drop 4 text) + 4) same)
        ]
      ]
    ]

-- ---- the bytes of a pair

record IsNumber (text : List ℕ) (size : ℕ) : Type 0 where
  colon : get_or text 0 0 ≡ 58
  some : 2 ≤ size
  digit : (i : ℕ) → 1 ≤ i → i < size → is_ascii_digit (get_or text i 0) ≡ true

number_is : (text : List ℕ) (n size : ℕ) → number_after text ≡ Some (n, size) → IsNumber text size
number_is [] n size is = cc
number_is (byte ∷ text) n size is =
    let sized = number_digits byte text n size is in
    record {
      colon = eqb-true byte 58 (number_colon (byte ∷ text) (n, size) is);
      some = omega (arith, sized.0, sized.1);
      digit = λ i some below.
          let same : i ≡ suc (i - 1) = omega (arith, some) in
          ap (λ k. is_ascii_digit (get_or (byte ∷ text) k 0)) same
          ∙ prefix_len_passes is_ascii_digit text (i - 1) 0 (omega (arith, some, below, sized.0));
    }

-- a line, and behind it a column, behind which numbers do not go on
record IsPair (text : List ℕ) (size : ℕ) : Type 0 where
  middle : ℕ
  line : ℕ
  column : ℕ
  more : ℕ
  line_read : number_after text ≡ Some (line, middle)
  line_is : IsNumber text middle
  read : number_after (drop middle text) ≡ Some (column, more)
  column_is : IsNumber (drop middle text) more
  size_is : middle + more ≡ size
  ended : goes_on (drop size text) ≡ false

abbrev sized : Option (ℕ × ℕ × ℕ) → ℕ
sized None = 0
sized (Some (line, column, size)) = size

with_end : (text : List ℕ) (line middle : ℕ) (found : Option (ℕ × ℕ)) (line' column size : ℕ) → number_after text ≡ Some (line, middle) → number_after (drop middle text) ≡ found
    → with_column line middle found ≡ Some (line', column, size) → goes_on (drop size text) ≡ false → IsPair text size
with_end text line middle None line' column size first from is ended = cc
with_end text line middle (Some (n, more)) line' column size first from is ended = record {
  middle = middle;
  line = line;
  column = n;
  more = more;
  line_read = first;
  line_is = number_is text line middle first;
  read = from;
  column_is = number_is (drop middle text) n more from;
  size_is = ap sized is;
  ended = ended;
}

with_front : (text : List ℕ) (found : Option (ℕ × ℕ)) (line column size : ℕ) → number_after text ≡ found
    → with_line text found ≡ Some (line, column, size) → goes_on (drop size text) ≡ false → IsPair text size
with_front text None line column size from is ended = cc
with_front text (Some (n, middle)) line column size from is ended =
    with_end text n middle (number_after (drop middle text)) line column size from refl is ended

pair_is : (text : List ℕ) (line column size : ℕ) → pair_numbers text ≡ Some (line, column, size) → IsPair text size
unfolding pair_numbers numbers_after
pair_is text line column size is = go (numbers_after text) refl is
  where
    chosen : (b : Bool) (numbers : ℕ × ℕ × ℕ) → cond b None (Some numbers) ≡ Some (line, column, size) → (b ≡ false) × (Some numbers ≡ Some (line, column, size))
    chosen true numbers is = cc
    chosen false numbers is = (refl, is)

    go : (o : Option (ℕ × ℕ × ℕ)) → numbers_after text ≡ o → unless_going_on text o ≡ Some (line, column, size) → IsPair text size
    go None from is = cc
    go (Some (l, c, n)) from is =
        let parts = chosen (goes_on (drop n text)) (l, c, n) is in
        let same : n ≡ size = ap sized parts.1 in
        with_front text (number_after text) line column size refl (from ∙ parts.1) (ap (λ k. goes_on (drop k text)) (sym same) ∙ parts.0)

-- a pair begins with a `:`, and all its bytes are digits or `:`
pub pair_colon : (text : List ℕ) (line column size : ℕ) → pair_numbers text ≡ Some (line, column, size) → get_or text 0 0 ≡ 58
pair_colon text line column size is = (pair_is text line column size is).line_is.colon

number_byte : (text : List ℕ) (size i : ℕ) → IsNumber text size → i < size → (get_or text i 0 ≡ 58) ⊎ (is_ascii_digit (get_or text i 0) ≡ true)
number_byte text size zero number below = inl number.colon
number_byte text size (suc i) number below = inr (number.digit (suc i) (omega arith) below)

pub pair_byte : (text : List ℕ) (line column size i : ℕ) → pair_numbers text ≡ Some (line, column, size) → i < size
    → (get_or text i 0 ≡ 58) ⊎ (is_ascii_digit (get_or text i 0) ≡ true)
pair_byte text line column size i is below =
    let pair = pair_is text line column size is in
    elim (cases_lt i pair.middle) [
      | inl before ↦ number_byte text pair.middle i pair.line_is before
      | inr behind ↦
          let same : pair.middle + (i - pair.middle) ≡ i = omega (arith, behind) in
          subst (λ n. (n ≡ 58) ⊎ (is_ascii_digit n ≡ true)) (get_or-drop pair.middle text (i - pair.middle) 0 ∙ ap (λ k. get_or text k 0) same)
          (number_byte (drop pair.middle text) pair.more (i - pair.middle) pair.column_is (omega (arith, behind, below, pair.size_is)))
    ]

pub byte_of_pair : (line : List ℕ) (pair : Pair) (i : ℕ) → IsPairOf line pair → pair.start ≤ i → i < pair.end
    → (get_or line i 0 ≡ 58) ⊎ (is_ascii_digit (get_or line i 0) ≡ true)
byte_of_pair line pair i is low below =
    let same : pair.start + (i - pair.start) ≡ i = omega (arith, low) in
    subst (λ n. (n ≡ 58) ⊎ (is_ascii_digit n ≡ true)) (get_or-drop pair.start line (i - pair.start) 0 ∙ ap (λ k. get_or line k 0) same)
    (pair_byte (drop pair.start line) pair.line pair.column (pair.end - pair.start) (i - pair.start) is.numbers (omega (arith, low, below)))

no_digit : (text : List ℕ) (i n : ℕ) → get_or text i 0 ≡ n → is_ascii_digit n ≡ false → is_ascii_digit (get_or text i 0) ≡ true → ⊥
no_digit text i n is off digit = cc (ap is_ascii_digit is, off, digit)

-- at a pair and in it begins no address
pub no_address_in : (text : List ℕ) (line column size k : ℕ) → pair_numbers text ≡ Some (line, column, size) → k < size
    → 1 ≤ address_size (drop k text) → ⊥
no_address_in text line column size k is within other =
    let pair = pair_is text line column size is in
    let address = address_is (drop k text) other in
    let here = byte_at text k 0 58 address.first in
    let next = byte_at text k 1 47 address.second in
    let one : k + 0 ≡ k = omega arith in
    elim (cases_lt k pair.middle) [
      | inl before ↦ elim (cases_lt (k + 1) pair.middle) [
        | inl inside ↦ no_digit text (k + 1) 47 next refl (pair.line_is.digit (k + 1) (omega arith) inside)
        | inr last ↦ no_digit text (k + 0) 58 here refl (pair.line_is.digit (k + 0) (omega (arith, last, before, pair.line_is.some)) (omega (arith, before)))
      ]
      | inr behind ↦
          let same : pair.middle + (k - pair.middle) ≡ k + 0 = omega (arith, behind) in
          let further : pair.middle + (k - pair.middle + 1) ≡ k + 1 = omega (arith, behind) in
          let at = get_or-drop pair.middle text (k - pair.middle) 0 ∙ ap (λ i. get_or text i 0) same in
          let at_next = get_or-drop pair.middle text (k - pair.middle + 1) 0 ∙ ap (λ i. get_or text i 0) further in
          elim (cases_lt pair.middle k) [
            | inl digit ↦ no_digit (drop pair.middle text) (k - pair.middle) 58 (at ∙ here) refl
                (pair.column_is.digit (k - pair.middle) (omega (arith, digit)) (omega (arith, within, pair.size_is, behind)))
            | inr colon ↦ no_digit (drop pair.middle text) (k - pair.middle + 1) 47 (at_next ∙ next) refl
                (pair.column_is.digit (k - pair.middle + 1) (omega arith) (omega (arith, colon, pair.column_is.some)))
          ]
    ]

going_on : (text : List ℕ) → get_or text 0 0 ≡ 58 → is_ascii_digit (get_or text 1 0) ≡ true → goes_on text ≡ true
going_on [] colon digit = absurd (omega (arith, colon))
going_on (byte ∷ []) colon digit = cc
going_on (byte ∷ next ∷ text) colon digit = ap (λ b. (b == 58 || b == 45) && is_ascii_digit next) colon ∙ digit

abbrev second : Option (ℕ × ℕ) → ℕ
second None = 0
second (Some (n, more)) = more

more_of : (o : Option (ℕ × ℕ)) (n m column more : ℕ) → o ≡ Some (n, m) → o ≡ Some (column, more) → m ≡ more
more_of o n m column more one other = sym (ap second one) ∙ ap second other

-- and in it begins no other pair
pub no_pair_in : (text : List ℕ) (line column size k : ℕ) → pair_numbers text ≡ Some (line, column, size) → 1 ≤ k → k < size
    → (row place bytes : ℕ) → pair_numbers (drop k text) ≡ Some (row, place, bytes) → ⊥
no_pair_in text line column size k is some within row place bytes other =
    let pair = pair_is text line column size is in
    let inner = pair_is (drop k text) row place bytes other in
    let here = byte_at text k 0 58 inner.line_is.colon in
    elim (cases_lt k pair.middle) [
      | inl before ↦ no_digit text (k + 0) 58 here refl (pair.line_is.digit (k + 0) (omega (arith, some)) (omega (arith, before)))
      | inr behind ↦ elim (cases_lt pair.middle k) [
        | inl digit ↦
            let same : pair.middle + (k - pair.middle) ≡ k + 0 = omega (arith, behind) in
            let at = get_or-drop pair.middle text (k - pair.middle) 0 ∙ ap (λ i. get_or text i 0) same in
            no_digit (drop pair.middle text) (k - pair.middle) 58 (at ∙ here) refl
            (pair.column_is.digit (k - pair.middle) (omega (arith, digit)) (omega (arith, within, pair.size_is, behind)))
        | inr colon ↦
            let same : k ≡ pair.middle = omega (arith, colon, behind) in
            let bytes : inner.middle ≡ pair.more =
            more_of (number_after (drop k text)) inner.line inner.middle pair.column pair.more inner.line_read
            (ap (λ k. number_after (drop k text)) same ∙ pair.read) in
            let end : k + inner.middle ≡ size = omega (arith, same, bytes, pair.size_is) in
            let rest : drop inner.middle (drop k text) ≡ drop size text = drop-drop inner.middle k text ∙ ap (λ k. drop k text) end in
            let on = going_on (drop inner.middle (drop k text)) inner.column_is.colon (inner.column_is.digit 1 (omega arith) (omega (arith, inner.column_is.some))) in
            absurd (cc (on, ap goes_on rest, pair.ended))
      ]
    ]
