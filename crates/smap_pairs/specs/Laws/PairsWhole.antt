-- Which pairs a line has: the numbers of pairs outside of addresses, and all of them.
use Rattle.std.proofs.Common.{◌≡◌, ◌≤◌, ◌<◌, ◌+◌, ◌-◌, ◌==◌, ◌||◌, ℕ, zero, suc, true, List, [], ◌∷◌, Option, Some, None, All}
use Rattle.std.proofs.Common.{drop, is_some, refl, sym, ap, ◌∙◌, arith, inl, inr, drop-drop, subst}
use Rattle.std.proofs.Math.Bool.{or-true}
use Rattle.std.proofs.Math.Seq.{drop-nil}
use Rattle.std.specs.List.{list_any}
use Rattle.std.proofs.lemmas.Bool.{cases_lt, eq-eqb}
use Rattle.std.proofs.lemmas.List.Elements.{All-cons, All-nil}
use Rattle.smap_pairs.specs.Pairs.{HasPairAt, InAddress, IsPairOf, address_size, pair_numbers, pairs_by, pairs_from, pairs_of}
use Rattle.smap_pairs.specs.Laws.Pairs.{no_pair, pair_size}
use Rattle.smap_pairs.specs.Laws.PairBytes.{address_alone, no_address_in, no_pair_in}

-- what stands before a byte of a line, and so many bytes from there on, which belong to a pair or an address: no address
-- reaches beyond them, and in them begins no pair
record Before (line : List ℕ) (at within : ℕ) : Type 0 where
  reach : (begin : ℕ) → begin < at + within → begin + address_size (drop begin line) ≤ at + within
  none : (i : ℕ) → at ≤ i → i < at + within → is_some (pair_numbers (drop i line)) ≡ true → (InAddress line i → ⊥) → ⊥

further : (line : List ℕ) (at within : ℕ) → Before line at (suc within) → Before line (suc at) within
further line at within before = record {
  reach = λ begin below. omega (arith, before.reach begin (omega (arith, below)));
  none = λ i low below. before.none i (omega (arith, low)) (omega (arith, below));
}

none_sized : (line : List ℕ) (begin : ℕ) → (1 ≤ address_size (drop begin line) → ⊥) → address_size (drop begin line) ≡ 0
none_sized line begin none = elim (cases_lt 0 (address_size (drop begin line))) [
  | inl some ↦ absurd (none (omega (arith, some)))
  | inr few ↦ omega (arith, few)
]

-- a byte behind another
from_there : (line : List ℕ) (at i : ℕ) → at ≤ i → drop (i - at) (drop at line) ≡ drop i line
from_there line at i low = let same : at + (i - at) ≡ i = omega (arith, low) in drop-drop (i - at) at line ∙ ap (λ k. drop k line) same

there : (o : Option (ℕ × ℕ × ℕ)) → is_some o ≡ true → (row : ℕ) × ((column : ℕ) × ((size : ℕ) × (o ≡ Some (row, column, size))))
there None some = cc
there (Some (row, column, size)) some = (row, (column, (size, refl)))

behind_pair : (line : List ℕ) (at row column size : ℕ) → Before line at 0 → pair_numbers (drop at line) ≡ Some (row, column, size)
    → Before line (suc at) (size - 1)
behind_pair line at row column size before is =
    let whole = pair_size (drop at line) row column size is in
    record {
      reach = λ begin below. elim (cases_lt begin at) [
        | inl early ↦ omega (arith, before.reach begin (omega (arith, early)))
        | inr late ↦
            let none = none_sized line begin (λ some. no_address_in (drop at line) row column size (begin - at) is (omega (arith, below, late, whole.some))
            (let same = ap address_size (from_there line at begin late) in omega (arith, some, same))) in
            omega (arith, none, below)
      ];
      none = λ i low below some outside.
          let found = there (pair_numbers (drop i line)) some in
          no_pair_in (drop at line) row column size (i - at) is (omega (arith, low)) (omega (arith, low, below, whole.some))
          found.0 found.1.0 found.1.1.0 (ap pair_numbers (from_there line at i (omega (arith, low))) ∙ found.1.1.1);
    }

behind_other : (line : List ℕ) (at : ℕ) → Before line at 0 → Before line (suc at) (address_size (drop at line) - 1)
behind_other line at before = record {
  reach = λ begin below. elim (cases_lt begin at) [
    | inl early ↦ omega (arith, before.reach begin (omega (arith, early)))
    | inr late ↦ elim (cases_lt at begin) [
      | inl inside ↦
          let none = none_sized line begin (λ some. address_alone (drop at line) (begin - at) (omega (arith, inside)) (omega (arith, below, inside))
          (let same = ap address_size (from_there line at begin late) in omega (arith, some, same))) in
          omega (arith, none, below)
      | inr here ↦
          let same : begin ≡ at = omega (arith, late, here) in
          omega (arith, ap (λ k. address_size (drop k line)) same, same)
    ]
  ];
  none = λ i low below some outside. outside (at, omega (arith, low), omega (arith, low, below));
}

rest_is : (line : List ℕ) (at byte : ℕ) (text : List ℕ) → byte ∷ text ≡ drop at line → text ≡ drop (suc at) line
rest_is line at byte text is =
    let one : at + 1 ≡ suc at = omega arith in ap (drop 1) is ∙ drop-drop 1 at line ∙ ap (λ k. drop k line) one

-- ---- each is one

outside : (line : List ℕ) (at row column size : ℕ) → Before line at 0 → pair_numbers (drop at line) ≡ Some (row, column, size) → InAddress line at → ⊥
outside line at row column size before is (begin, low, within) = elim (cases_lt begin at) [
  | inl early ↦ omega (arith, before.reach begin (omega (arith, early)), within)
  | inr late ↦
      let same : begin ≡ at = omega (arith, low, late) in
      no_address_in (drop at line) row column size 0 is (omega (arith, (pair_size (drop at line) row column size is).some))
      (omega (arith, ap (λ k. address_size (drop k line)) same, same, within))
]

each : (line : List ℕ) (at piece within : ℕ) (text : List ℕ) → text ≡ drop at line → Before line at within → All (IsPairOf line) (pairs_from at piece within text)
unfolding pairs_from
each line at piece within [] is before = All-nil (IsPairOf line)
each line at piece (suc within) (byte ∷ text) is before =
    each line (suc at) piece within text (rest_is line at byte text is) (further line at within before)
each line at piece zero (byte ∷ text) is before = go (pair_numbers (byte ∷ text)) refl (λ piece within before. each line (suc at) piece within text (rest_is line at byte text is) before)
  where
    go : (o : Option (ℕ × ℕ × ℕ)) → pair_numbers (byte ∷ text) ≡ o
        → ((piece within : ℕ) → Before line (suc at) within → All (IsPairOf line) (pairs_from (suc at) piece within text))
        → All (IsPairOf line) (pairs_by at piece (address_size (byte ∷ text)) (λ piece within. pairs_from (suc at) piece within text) o)
    go None none more =
        more piece (address_size (byte ∷ text) - 1) (subst (λ t. Before line (suc at) (address_size t - 1)) (sym is) (behind_other line at before))
    go (Some (row, column, size)) some more =
        let here : pair_numbers (drop at line) ≡ Some (row, column, size) = ap pair_numbers (sym is) ∙ some in
        let bytes : size ≡ at + size - at = omega arith in
        All-cons (IsPairOf line) _ (pairs_from (suc at) (at + size) (size - 1) text)
        (record { numbers = here ∙ ap (λ n. Some (row, column, n)) bytes; is_outside = outside line at row column size before here })
        (more (at + size) (size - 1) (behind_pair line at row column size before here))

-- ---- and all are there

all_there : (line : List ℕ) (at piece within : ℕ) (text : List ℕ) → text ≡ drop at line → Before line at within → (start : ℕ) → at ≤ start
    → is_some (pair_numbers (drop start line)) ≡ true → (InAddress line start → ⊥) → HasPairAt start (pairs_from at piece within text)
unfolding pairs_from
all_there line at piece within [] is before start low some outside =
    let rest : drop start line ≡ [] = sym (from_there line at start low) ∙ ap (drop (start - at)) (sym is) ∙ drop-nil (start - at) in
    absurd (cc (some, ap (λ t. is_some (pair_numbers t)) rest, ap is_some no_pair))
all_there line at piece (suc within) (byte ∷ text) is before start low some outside = elim (cases_lt at start) [
  | inl later ↦ all_there line (suc at) piece within text (rest_is line at byte text is) (further line at within before) start (omega (arith, later)) some outside
  | inr here ↦ absurd (before.none start low (omega (arith, here)) some outside)
]
all_there line at piece zero (byte ∷ text) is before start low some outside =
    go (pair_numbers (byte ∷ text)) refl (λ piece within before low. all_there line (suc at) piece within text (rest_is line at byte text is) before start low some outside)
  where
    go : (o : Option (ℕ × ℕ × ℕ)) → pair_numbers (byte ∷ text) ≡ o
        → ((piece within : ℕ) → Before line (suc at) within → suc at ≤ start → HasPairAt start (pairs_from (suc at) piece within text))
        → HasPairAt start (pairs_by at piece (address_size (byte ∷ text)) (λ piece within. pairs_from (suc at) piece within text) o)
    go None none more = elim (cases_lt at start) [
      | inl later ↦ more piece (address_size (byte ∷ text) - 1)
          (subst (λ t. Before line (suc at) (address_size t - 1)) (sym is) (behind_other line at before)) (omega (arith, later))
      | inr here ↦
          let same : start ≡ at = omega (arith, low, here) in
          absurd (cc (some, ap (λ k. is_some (pair_numbers (drop k line))) same, ap (λ t. is_some (pair_numbers t)) is, ap is_some none))
    ]
    go (Some (row, column, size)) found more = elim (cases_lt at start) [
      | inl later ↦
          let there : pair_numbers (drop at line) ≡ Some (row, column, size) = ap pair_numbers (sym is) ∙ found in
          ap (λ b. (at == start) || b) (more (at + size) (size - 1) (behind_pair line at row column size before there) (omega (arith, later)))
          ∙ or-true (at == start)
      | inr here ↦
          let same : at ≡ start = omega (arith, low, here) in
          ap (λ b. b || list_any (λ pair. pair.start == start) (pairs_from (suc at) (at + size) (size - 1) text)) (eq-eqb at start same)
    ]

at_first : (line : List ℕ) → Before line 0 0
at_first line = record { reach = λ begin below. absurd (omega (arith, below)); none = λ i low below some outside. omega (arith, below) }

pub all_are_there : (line : List ℕ) (start : ℕ) → is_some (pair_numbers (drop start line)) ≡ true → (InAddress line start → ⊥)
    → HasPairAt start (pairs_of line)
all_are_there line start some outside = all_there line 0 0 0 line refl (at_first line) start (omega arith) some outside

pub each_is_one : (line : List ℕ) → All (IsPairOf line) (pairs_of line)
each_is_one line = each line 0 0 0 line refl (at_first line)
