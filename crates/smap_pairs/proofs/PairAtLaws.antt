-- Pairs in their order: which one begins at a byte.
use Rattle.std.proofs.Common.{◌≡◌, ◌==◌, ◌<◌, ◌≤◌, ℕ, Bool, true, false, cond, List, [], ◌∷◌, ◌++◌, Option, Some, None, ap, arith, drop, refl, sym, take, ◌∙◌}
use Rattle.std.proofs.lemmas.Bool.{eq-eqb, ne_eqb}
use Rattle.std.proofs.lemmas.List.{take-append-drop}
use Rattle.std.specs.List.{find}
use Rattle.smap_pairs.specs.Pairs.{AreInOrder}
use Rattle.smap_pairs.specs.declared.pairs.Pair.{Pair}

abbrev pub at : (start : ℕ) → List Pair → Option Pair
at start pairs = find (λ pair. pair.start == start) pairs

module _ (bytes : ℕ) (pair : Pair) (later : List Pair) where
  pub order_before : (piece : ℕ) (before : List Pair) → AreInOrder piece bytes (before ++ pair ∷ later) → AreInOrder piece bytes before
  order_before piece [] order = tt
  order_before piece (one ∷ before) order = (order.0, order.1, order.2, order.3, order_before one.end before order.4)

  pub order_later : (piece : ℕ) (before : List Pair) → AreInOrder piece bytes (before ++ pair ∷ later) → AreInOrder pair.end bytes later
  order_later piece [] order = order.4
  order_later piece (one ∷ before) order = order_later one.end before order.4

  pub least : (piece : ℕ) (before : List Pair) → AreInOrder piece bytes (before ++ pair ∷ later) → piece ≤ pair.start
  least piece [] order = order.1
  least piece (one ∷ before) order = (let rest : one.end ≤ pair.start = least one.end before order.4 in omega (arith, order.1, order.2, rest))

  pub inside : (piece : ℕ) (before : List Pair) → AreInOrder piece bytes (before ++ pair ∷ later) → pair.start ≤ bytes
  inside piece [] order = omega (arith, order.2, order.3)
  inside piece (one ∷ before) order = inside one.end before order.4

-- none of what stands behind a byte begins before it
pub none_behind : (bytes piece : ℕ) (pairs : List Pair) (start : ℕ) → AreInOrder piece bytes pairs → start < piece → at start pairs ≡ None
none_behind bytes piece [] start order less = refl
none_behind bytes piece (one ∷ pairs) start order less =
    other (one.start == start) (ne_eqb one.start start (λ e. omega (arith, e, order.1, less)))
    (none_behind bytes one.end pairs start order.4 (omega (arith, order.1, order.2, less)))
  where
    other : (same : Bool) → same ≡ false → at start pairs ≡ None → cond same (Some one) (at start pairs) ≡ None
    other true is none = absurd (cc)
    other false is none = none

module _ (bytes : ℕ) (pair : Pair) (later : List Pair) (start : ℕ) where
  other : (one : Pair) (found rest : Option Pair) → (same : Bool) → same ≡ false → found ≡ rest → cond same (Some one) found ≡ rest
  other one found rest true is equal = absurd (cc)
  other one found rest false is equal = equal

  pub found_behind : (piece : ℕ) (before : List Pair) → AreInOrder piece bytes (before ++ pair ∷ later) → pair.start < start
      → at start (before ++ pair ∷ later) ≡ at start later
  found_behind piece [] order less = other pair (at start later) (at start later) (pair.start == start) (ne_eqb pair.start start (λ e. omega (arith, e, less))) refl
  found_behind piece (one ∷ before) order less =
      let next : one.end ≤ pair.start = least bytes pair later one.end before order.4 in
      other one (at start (before ++ pair ∷ later)) (at start later) (one.start == start)
      (ne_eqb one.start start (λ e. omega (arith, e, next, order.2, less))) (found_behind one.end before order.4 less)

  pub found_before : (piece : ℕ) (before : List Pair) → AreInOrder piece bytes (before ++ pair ∷ later) → start < pair.start
      → at start (before ++ pair ∷ later) ≡ at start before
  found_before piece [] order less =
      other pair (at start later) None (pair.start == start) (ne_eqb pair.start start (λ e. omega (arith, e, less)))
      (none_behind bytes pair.end later start order.4 (omega (arith, order.2, less)))
  found_before piece (one ∷ before) order less = same (one.start == start) (found_before one.end before order.4 less)
    where
      same : (is : Bool) → at start (before ++ pair ∷ later) ≡ at start before
          → cond is (Some one) (at start (before ++ pair ∷ later)) ≡ cond is (Some one) (at start before)
      same true equal = refl
      same false equal = equal

-- a line's pairs before one, it, and those behind it
pub parted : (rest before behind later : List Pair) (pair : Pair) (middle : ℕ) → before ≡ take middle rest → behind ≡ drop middle rest
    → behind ≡ pair ∷ later → rest ≡ before ++ pair ∷ later
parted rest before behind later pair middle front back first =
    sym (ap (λ l. before ++ l) (sym first ∙ back) ∙ ap (λ l. l ++ drop middle rest) front ∙ take-append-drop middle rest)

module _ (bytes : ℕ) (pair : Pair) (later : List Pair) where
  pub found_here : (piece : ℕ) (before : List Pair) → AreInOrder piece bytes (before ++ pair ∷ later) → at pair.start (before ++ pair ∷ later) ≡ Some pair
  found_here piece [] order = ap (λ same. cond same (Some pair) (at pair.start later)) (eq-eqb pair.start pair.start refl)
  found_here piece (one ∷ before) order =
      let next : one.end ≤ pair.start = least bytes pair later one.end before order.4 in
      other bytes pair later pair.start one (at pair.start (before ++ pair ∷ later)) (Some pair) (one.start == pair.start)
      (ne_eqb one.start pair.start (λ e. omega (arith, e, next, order.2))) (found_here one.end before order.4)
