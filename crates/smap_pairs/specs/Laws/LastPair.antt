-- Numbers behind which a line ends, or goes on without signs of pairs and of addresses, are its last pair.
use Rattle.std.proofs.Common.{◌≡◌, ◌≤◌, ◌+◌, ◌-◌, ◌==◌, ◌&&◌, ◌||◌, ℕ, Bool, true, false, List, [], ◌∷◌, ◌++◌, Option, Some, None, All, codes, cond, drop, get_or}
use Rattle.std.proofs.Common.{is_some, length, refl, sym, ap, ◌∙◌, arith, inl, inr, drop-drop, length-append}
use Rattle.std.specs.Fmt.{decimal}
use Rattle.std.specs.List.{list_any}
use Rattle.std.proofs.Math.Seq.{drop-append_seam}
use Rattle.std.proofs.lemmas.Bool.{cases_lt, eqb-true}
use Rattle.std.proofs.lemmas.List.{drop_at, get_or-drop, get_or_past}
use Rattle.std.proofs.lemmas.List.Elements.{All-head, All-tail}
use Rattle.std.proofs.lemmas.List.Folds.{list_any_at}
use Rattle.smap_lines.specs.Laws.Number.{number_is, number_reads}
use Rattle.smap_pairs.specs.declared.pairs.Pair.{Pair}
use Rattle.smap_lines.specs.Numbers.{decimal_number}
use Rattle.smap_pairs.specs.Numbers.{has_digit}
use Rattle.smap_pairs.specs.Pairs.{AreInOrder, HasPairAt, InAddress, IsPairOf, address_length, goes_on, pair_numbers, pairs_of, unless_going_on}
use Rattle.smap_pairs.specs.Printed.{IsNumbers}
use Rattle.smap_pairs.specs.Laws.PairBytes.{address_is, no_pair_in, pair_byte, pair_colon}
use Rattle.smap_pairs.specs.Laws.Pairs.{are_in_order, pair_size}
use Rattle.smap_pairs.specs.Laws.PairsWhole.{all_are_there, each_is_one}
use Rattle.smap_pairs.specs.Laws.NumberReach.{third}
use Rattle.smap_pairs.specs.Laws.Printed.{numbers_printed}

-- the last pair of a line begins at this byte, and has this line, this column and so many bytes
pub record IsLastPair (line : List ℕ) (start row column size : ℕ) : Type 0 where
  pub before : List Pair
  pub piece : ℕ
  pub joined : pairs_of line ≡ before ++ (record { start = start; end = start + size; piece = piece; line = row; column = column } ∷ [])

-- ---- in a list of pairs

record IsLastAt (holds : Pair → Type 0) (start : ℕ) (pairs : List Pair) : Type 0 where
  before : List Pair
  pair : Pair
  joined : pairs ≡ before ++ (pair ∷ [])
  starts : pair.start ≡ start
  is : holds pair

last_at : (holds : Pair → Type 0) (start piece bytes : ℕ) (pairs : List Pair) → AreInOrder piece bytes pairs → All holds pairs
    → All (λ pair. pair.start ≤ start) pairs → HasPairAt start pairs → IsLastAt holds start pairs
last_at holds start piece bytes [] order all low has = cc
last_at holds start piece bytes (pair ∷ pairs) order all low has =
    go (pair.start == start) refl pairs order.4 (All-tail (λ pair. pair.start ≤ start) pair pairs low) has
    (λ has. last_at holds start pair.end bytes pairs order.4 (All-tail holds pair pairs all) (All-tail (λ pair. pair.start ≤ start) pair pairs low) has)
  where
    go : (here : Bool) → (pair.start == start) ≡ here → (more : List Pair) → AreInOrder pair.end bytes more → All (λ pair. pair.start ≤ start) more
        → (here || list_any (λ pair. pair.start == start) more) ≡ true → (HasPairAt start more → IsLastAt holds start more)
        → IsLastAt holds start (pair ∷ more)
    go true at [] order' low has rest = record {
      before = [];
      pair = pair;
      joined = refl;
      starts = eqb-true pair.start start at;
      is = All-head holds pair pairs all;
    }
    go true at (next ∷ more) order' low has rest =
        let same = eqb-true pair.start start at in
        let first = All-head (λ pair. pair.start ≤ start) next more low in
        absurd (omega (arith, same, first, order.2, order'.1))
    go false at more order' low has rest =
        let last = rest has in
        record { before = pair ∷ last.before; pair = last.pair; joined = ap (λ l. pair ∷ l) last.joined; starts = last.starts; is = last.is }

abbrev first : Option (ℕ × ℕ × ℕ) → ℕ
first None = 0
first (Some (line, column, size)) = line

abbrev second : Option (ℕ × ℕ × ℕ) → ℕ
second None = 0
second (Some (line, column, size)) = column

same_pair : (pair : Pair) (start end line column : ℕ) → pair.start ≡ start → pair.end ≡ end → pair.line ≡ line → pair.column ≡ column
    → pair ≡ record { start = start; end = end; piece = pair.piece; line = line; column = column }
same_pair pair start end line column starts ends lines columns =
    λ i. record { start = starts i; end = ends i; piece = pair.piece; line = lines i; column = columns i }

-- ---- in a line

-- signs of a pair and of an address
abbrev pub goes_further : ℕ → Bool
goes_further byte = byte == 58 || byte == 45 || byte == 93

module _ (line : List ℕ) (start row column size : ℕ) (is : pair_numbers (drop start line) ≡ Some (row, column, size))
    (ended : list_any goes_further (drop size (drop start line)) ≡ false) where
  -- none of these signs stands behind the numbers
  no_sign : (i : ℕ) → start + size ≤ i → goes_further (get_or line i 0) ≡ true → ⊥
  no_sign i low sign =
      let rest = drop size (drop start line) in
      let j = i - (start + size) in
      let place : start + (size + (i - (start + size))) ≡ i = omega (arith, low) in
      let same = get_or-drop size (drop start line) (i - (start + size)) 0 ∙ get_or-drop start line (size + (i - (start + size))) 0
      ∙ ap (λ k. get_or line k 0) place in
      elim (cases_lt (i - (start + size)) (length (drop size (drop start line)))) [
        | inl inside ↦ absurd (cc (list_any_at goes_further rest j 0 inside (ap goes_further same ∙ sign), ended))
        | inr outside ↦ absurd (cc (ap goes_further (sym (get_or_past rest j 0 outside) ∙ same), sign))
      ]

  no_address : InAddress line start → ⊥
  no_address (begin, low, within) =
      let address = address_is (drop begin line) (omega (arith, low, within)) in
      let last = begin + (address_length (drop 4 (drop begin line)) + 4) in
      let byte = sym (get_or-drop begin line (address_length (drop 4 (drop begin line)) + 4) 0) ∙ address.last in
      let far : start ≤ begin + (address_length (drop 4 (drop begin line)) + 4) = omega (arith, within, address.size_is) in
      elim (cases_lt (begin + (address_length (drop 4 (drop begin line)) + 4)) (start + size)) [
        | inl inside ↦
            let place : start + (last - start) ≡ begin + (address_length (drop 4 (drop begin line)) + 4) = omega (arith, far) in
            let at = get_or-drop start line (last - start) 0 ∙ ap (λ k. get_or line k 0) place ∙ byte in
            elim (pair_byte (drop start line) row column size (last - start) is (omega (arith, far, inside))) [
              | inl colon ↦ absurd (omega (arith, colon, at))
              | inr digit ↦ absurd (cc (at, digit))
            ]
        | inr behind ↦ no_sign last behind (ap goes_further byte)
      ]

  none_later : (pair : Pair) → IsPairOf line pair → pair.start ≤ start
  none_later pair at = elim (cases_lt start pair.start) [
    | inl later ↦
        let colon = sym (get_or-drop pair.start line 0 0) ∙ pair_colon (drop pair.start line) pair.line pair.column (pair.end - pair.start) at.numbers in
        elim (cases_lt pair.start (start + size)) [
          | inl inside ↦
              let place : start + (pair.start - start) ≡ pair.start = omega (arith, later) in
              let rest = drop-drop (pair.start - start) start line ∙ ap (λ k. drop k line) place in
              absurd (no_pair_in (drop start line) row column size (pair.start - start) is (omega (arith, later)) (omega (arith, later, inside))
              pair.line pair.column (pair.end - pair.start) (ap pair_numbers rest ∙ at.numbers))
          | inr behind ↦ absurd (no_sign (pair.start + 0) (omega (arith, behind)) (ap goes_further colon))
        ]
    | inr not ↦ not
  ]

  found : IsLastAt (IsPairOf line) start (pairs_of line)
  found = last_at (IsPairOf line) start 0 (length line) (pairs_of line) (are_in_order line) (each_is_one line)
      (λ k d below. none_later _ (each_is_one line k d below)) (all_are_there line start (ap is_some is) no_address)

  pub last_pair : IsLastPair line start row column size
  last_pair =
      let pair = found.pair in
      let same : Some (pair.line, pair.column, pair.end - pair.start) ≡ Some (row, column, size)
      = sym found.is.numbers ∙ ap (λ k. pair_numbers (drop k line)) found.starts ∙ is in
      let some = (pair_size (drop start line) row column size is).some in
      let bytes = ap third same in
      let end : pair.end ≡ start + size = omega (arith, bytes, some, found.starts) in
      record {
        before = found.before;
        piece = pair.piece;
        joined = found.joined ∙ ap (λ p. found.before ++ (p ∷ [])) (same_pair pair start (start + size) row column found.starts end (ap first same) (ap second same));
      }

-- ---- as it is printed

quiet : (text : List ℕ) → list_any goes_further text ≡ false → goes_on text ≡ false
quiet [] ended = refl
quiet (byte ∷ text) ended = go (byte == 58 || byte == 45) ended
  where
    go : (sign : Bool) → (sign || byte == 93 || list_any goes_further text) ≡ false → (sign && has_digit text) ≡ false
    go true ended = cc
    go false ended = refl

behind_numbers : (text : List ℕ) (row column size : ℕ) (numbers : IsNumbers text row column size) → drop size text ≡ numbers.after
behind_numbers text row column size numbers =
    let front = codes ":" ++ decimal row ++ codes ":" ++ decimal column in
    let bytes : length (codes ":" ++ decimal row ++ codes ":" ++ decimal column) ≡ size = simp length-append (omega (arith, numbers.size_is)) in
    ap (drop size) numbers.joined ∙ drop_at front numbers.after size bytes

printed_pair : (text : List ℕ) (row column size : ℕ) (numbers : IsNumbers text row column size) → list_any goes_further numbers.after ≡ false
    → pair_numbers text ≡ Some (row, column, size)
unfolding pair_numbers
printed_pair text row column size numbers ended =
    ap (unless_going_on text) (numbers_printed (λ text n. (number_is text n, λ is. ap decimal_number is.0 ∙ number_reads n is.1)) text row column size numbers)
    ∙ ap (λ b. cond b None (Some (row, column, size))) (ap goes_on (behind_numbers text row column size numbers) ∙ quiet numbers.after ended)

-- numbers as they are printed behind the front of a line, and none of the signs behind them, as at the end of a frame
pub last_printed : (front text : List ℕ) (row column size : ℕ) (numbers : IsNumbers text row column size) → list_any goes_further numbers.after ≡ false
    → IsLastPair (front ++ text) (length front) row column size
last_printed front text row column size numbers ended =
    let seam : drop (length front) (front ++ text) ≡ text = drop-append_seam front text in
    last_pair (front ++ text) (length front) row column size (ap pair_numbers seam ∙ printed_pair text row column size numbers ended)
    (ap (λ t. list_any goes_further (drop size t)) seam ∙ ap (list_any goes_further) (behind_numbers text row column size numbers) ∙ ended)
