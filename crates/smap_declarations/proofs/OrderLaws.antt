-- Declarations in the order in which they are kept, and which of them stand up to a place.
use Rattle.std.proofs.Common.{◌≡◌, ◌+◌, ◌-◌, ◌<◌, ◌≤◌, ℕ, Bool, true, false, cond, ◌&&◌, ◌||◌, List, [], ◌∷◌, length, get_or, refl, sym, ap, ap₂, ◌∙◌, ◌⊎◌, inl, inr, arith, Some}
use Rattle.std.specs.Prelude.{nat_eq, nat_le, nat_lt, slice_get}
use Rattle.std.specs.Borrow.{Bor}
use Rattle.std.specs.Cmp.{IsStrictWeakOrder, IsTotalOrder}
use Rattle.std.specs.Cmp.Lexicographic.{slice_cmp}
use Rattle.std.specs.Fn.{Called, ComparesAs}
use Rattle.std.specs.List.{AllWithin, Contains}
use Rattle.std.specs.List.Sorted.{IsNonDecreasingBy, IsSortedBy}
use Rattle.std.specs.Ordering.{is_eq, is_le, is_lt, nat_cmp, ordering_index, ordering_reverse, ordering_then}
use Rattle.std.specs.Str.{bytes_eq}
use Rattle.std.specs.declared.cmp.Ordering.{Ordering}
use Rattle.std.specs.declared.cmp.Ordering.TheVariants.{Less, Equal, Greater}
use Rattle.std.proofs.lemmas.Bool.{and_from, and_parts, cases_lt, false≢true}
use Rattle.std.proofs.lemmas.Bool.Decides.{nat_tests}
use Rattle.std.proofs.lemmas.Cmp.{alike_right, nat_cmp_total, nat_list_cmp_total, on_total, then_total}
use Rattle.std.proofs.lemmas.Fn.{always_returns_same}
use Rattle.std.proofs.lemmas.List.{get_or-map, get_or_default, length-map}
use Rattle.std.proofs.lemmas.List.Sorted.{ranks_by, searchable_from_sorted, sorted_far}
use Rattle.std.proofs.lemmas.Map.Text.{is_eq-slice_cmp}
use Rattle.std.proofs.lemmas.Option.{get_or_from_slice_get}
use denote.Param.Members.{Mut}
use Rattle.smap_declarations.specs.Declarations.{Named}
use Rattle.smap_declarations.specs.Frames.{IsLast, is_of}
use Rattle.smap_declarations.specs.Private.Found.{all_named, named}
use Rattle.smap_declarations.specs.Private.Order.{IsInOrder, by_name, is_up_to, named_cmp, place_cmp}
use Rattle.smap_declarations.specs.Walk.{is_at_or_before}
use Rattle.smap_declarations.specs.declared.given.Given.TheVariants as given
use Rattle.smap_declarations.specs.declared.naming.Found.{Found}
use Rattle.smap_declarations.specs.declared.walk.DeclarationPlace.{DeclarationPlace}

-- ---- the orders are total

place_total : IsTotalOrder place_cmp
place_total = then_total (on_total (λ (p : DeclarationPlace). p.line) nat_cmp_total) (on_total (λ (p : DeclarationPlace). p.column) nat_cmp_total)

named_total : IsTotalOrder named_cmp
named_total = then_total (on_total (λ (n : Named). n.name) nat_list_cmp_total) (on_total (λ (n : Named). n.place) place_total)

-- ---- tests by them

le_of_numbers : (a b : ℕ) → is_le (nat_cmp a b) ≡ nat_le a b
le_of_numbers a b = grind (arith, nat_tests)

by_lines : (less same : Bool) (o : Ordering) → is_le (ordering_then (cond less Less (cond same Equal Greater)) o) ≡ (less || (same && is_le o))
by_lines true same o = refl
by_lines false true o = refl
by_lines false false o = refl

-- a place is not after another
not_after : (p q : DeclarationPlace) → is_le (place_cmp p q) ≡ is_at_or_before p q
not_after p q =
    by_lines (nat_lt p.line q.line) (nat_eq p.line q.line) (nat_cmp p.column q.column)
    ∙ ap (λ b. nat_lt p.line q.line || (nat_eq p.line q.line && b)) (le_of_numbers p.column q.column)

target : (name : List ℕ) → DeclarationPlace → Named
target name place = record { name = name; place = place; until = place; given = given.Nothing }

by_name_then : (o s : Ordering) → is_le (ordering_then o s) ≡ by_name o (is_le s)
by_name_then Less s = refl
by_name_then Equal s = refl
by_name_then Greater s = refl

up_to_is : (name : List ℕ) (place : DeclarationPlace) (n : Named) → is_le (named_cmp n (target name place)) ≡ is_up_to name place n
unfolding target
up_to_is name place n =
    by_name_then (slice_cmp nat_cmp n.name name) (place_cmp n.place place)
    ∙ ap (by_name (slice_cmp nat_cmp n.name name)) (not_after n.place place)

-- ---- in order

low_rank : (o : Ordering) → is_le o ≡ true → ordering_index o ≤ 1
low_rank Less is = omega arith
low_rank Equal is = omega arith
low_rank Greater is = absurd (false≢true is)

high_rank : (o : Ordering) → is_le o ≡ false → ordering_index o ≡ 2
high_rank Less is = absurd (false≢true (sym is))
high_rank Equal is = absurd (false≢true (sym is))
high_rank Greater is = refl

from_low : (o : Ordering) → ordering_index o ≤ 1 → is_le o ≡ true
from_low Less low = refl
from_low Equal low = refl
from_low Greater low = absurd (omega arith)

from_high : (o : Ordering) → 2 ≤ ordering_index o → is_le o ≡ false
from_high Less high = absurd (omega arith)
from_high Equal high = absurd (omega arith)
from_high Greater high = refl

module _ (name : List ℕ) (place : DeclarationPlace) (all : List Named) (ordered : IsInOrder all) where
  rank : Named → ℕ
  rank n = ordering_index (named_cmp n (target name place))

  rising : IsNonDecreasingBy rank all
  unfolding rank
  rising = searchable_from_sorted named_total (λ n. n) all (target name place) ordered

  -- those in front of one that stands up to the place do too
  pub in_front : (i : ℕ) (n : Named) → slice_get all i ≡ Some n → i < length all → is_up_to name place n ≡ true
      → AllWithin (λ named. is_up_to name place named ≡ true) all 0 (i + 1)
  unfolding rank
  in_front i n there within is k d low high =
      let at : get_or all i d ≡ n = get_or_from_slice_get all i n d there in
      let here : ordering_index (named_cmp (get_or all i d) (target name place)) ≤ 1
      = low_rank _ (up_to_is name place (get_or all i d) ∙ ap (is_up_to name place) at ∙ is) in
      let below : ordering_index (named_cmp (get_or all k d) (target name place)) ≤ 1 = omega (arith, rising k i d (omega arith) within, here) in
      sym (up_to_is name place (get_or all k d)) ∙ from_low _ below

  -- those behind one that doesn't do not
  pub behind : (i : ℕ) (n : Named) → slice_get all i ≡ Some n → i < length all → is_up_to name place n ≡ false
      → AllWithin (λ named. is_up_to name place named ≡ false) all i (length all)
  unfolding rank
  behind i n there within is k d low high =
      let at : get_or all i d ≡ n = get_or_from_slice_get all i n d there in
      let here : ordering_index (named_cmp (get_or all i d) (target name place)) ≡ 2
      = high_rank _ (up_to_is name place (get_or all i d) ∙ ap (is_up_to name place) at ∙ is) in
      let above : 2 ≤ ordering_index (named_cmp (get_or all k d) (target name place)) = omega (arith, rising i k d low high, here) in
      sym (up_to_is name place (get_or all k d)) ∙ from_high _ above

-- ---- which one decides

same_name : (a b : List ℕ) → bytes_eq a b ≡ true → slice_cmp nat_cmp a b ≡ Equal
same_name a b same = equal (slice_cmp nat_cmp a b) (is_eq-slice_cmp a b ∙ same)
  where
    equal : (o : Ordering) → is_eq o ≡ true → o ≡ Equal
    equal Less is = absurd (false≢true is)
    equal Equal is = refl
    equal Greater is = absurd (false≢true is)

other_name : (a b : List ℕ) → slice_cmp nat_cmp a b ≡ Equal → bytes_eq a b ≡ true
other_name a b same = sym (is_eq-slice_cmp a b) ∙ ap is_eq same

-- what is of a name at a place stands up to it
of_is_up_to : (name : List ℕ) (place : DeclarationPlace) (n : Named) → is_of name place n ≡ true → is_up_to name place n ≡ true
of_is_up_to name place n of =
    let parts = and_parts (bytes_eq n.name name) (is_at_or_before n.place place) of in
    ap (λ o. by_name o (is_at_or_before n.place place)) (same_name n.name name parts.0) ∙ parts.1

up_to_is_of : (name : List ℕ) (place : DeclarationPlace) (n : Named) → bytes_eq n.name name ≡ true → is_up_to name place n ≡ true → is_of name place n ≡ true
up_to_is_of name place n same is =
    and_from (bytes_eq n.name name) (is_at_or_before n.place place) same
    (sym (ap (λ o. by_name o (is_at_or_before n.place place)) (same_name n.name name same)) ∙ is)

-- of two in order that have one name, the first is not after the second
in_turn : (m n : Named) → slice_cmp nat_cmp n.name m.name ≡ Equal → is_lt (named_cmp n m) ≡ false → is_le (place_cmp m.place n.place) ≡ true
in_turn m n same ordered =
    let later : is_lt (place_cmp n.place m.place) ≡ false
    = sym (ap (λ o. is_lt (ordering_then o (place_cmp n.place m.place))) same) ∙ ordered in
    turned (place_cmp n.place m.place) (place_cmp m.place n.place) (place_total.antisymm m.place n.place) later
  where
    turned : (o back : Ordering) → back ≡ ordering_reverse o → is_lt o ≡ false → is_le back ≡ true
    turned Less back is later = absurd (false≢true (sym later))
    turned Equal back is later = ap is_le is
    turned Greater back is later = ap is_le is

module _ (name : List ℕ) (place : DeclarationPlace) (all : List Named) (ordered : IsInOrder all) (end : ℕ) (within : end ≤ length all)
    (above : AllWithin (λ named. is_up_to name place named ≡ false) all end (length all)) where
  -- what is of the name stands before the end
  pub before_end : (n : Named) (k : ℕ) → k < length all → get_or all k n ≡ n → is_of name place n ≡ true → k < end
  before_end n k inside there of = past (cases_lt k end)
    where
      past : (k < end) ⊎ (end ≤ k) → k < end
      past (inl less) = less
      past (inr more) = absurd (false≢true (sym (ap (is_up_to name place) (sym there) ∙ refl ∙ above k n more inside) ∙ of_is_up_to name place n of))

  pub none_before : end ≡ 0 → (n : Named) → Contains all n → is_of name place n ≡ true → ⊥
  none_before none n (k, inside, there) of = let less = before_end n k inside there of in omega arith

  module _ (some : 0 < end) (d : Named) (there : slice_get all (end - 1) ≡ Some d)
      (below : AllWithin (λ named. is_up_to name place named ≡ true) all 0 end) where
    at_last : get_or all (end - 1) d ≡ d
    at_last = get_or_from_slice_get all (end - 1) d d there

    up_to : is_up_to name place d ≡ true
    up_to = ap (is_up_to name place) (sym at_last) ∙ below (end - 1) d (omega arith) (omega arith)

    -- one of the name stands in front of the last, or is that
    not_behind : (n : Named) → Contains all n → is_of name place n ≡ true → is_lt (named_cmp d n) ≡ false
    not_behind n (k, inside, is) of =
        let less = before_end n k inside is of in
        let at_k : get_or all k d ≡ n = get_or_default all k d n inside ∙ is in
        ap₂ (λ x y. is_lt (named_cmp x y)) (sym at_last) (sym at_k)
        ∙ sorted_far (λ x y. is_lt (named_cmp x y)) (ranks_by named_total (λ x. x)) all ordered k (end - 1) d (omega arith) (omega arith)

    -- it compares to the last as the name does
    alike : (n : Named) → is_of name place n ≡ true → slice_cmp nat_cmp d.name n.name ≡ slice_cmp nat_cmp d.name name
    alike n of = alike_right nat_list_cmp_total n.name name d.name (same_name n.name name (and_parts (bytes_eq n.name name) (is_at_or_before n.place place) of).0)

    pub last_decides : bytes_eq d.name name ≡ true → IsLast all name place d
    last_decides same = record {
      among = (end - 1, omega arith, at_last);
      of = up_to_is_of name place d same up_to;
      latest = λ n among of. sym (not_after n.place d.place)
          ∙ in_turn n d (alike n of ∙ same_name d.name name same) (not_behind n among of);
    }

    pub none_decides : bytes_eq d.name name ≡ false → (n : Named) → Contains all n → is_of name place n ≡ true → ⊥
    none_decides differs n among of =
        false≢true (sym (not_behind n among of) ∙ ap (λ o. is_lt (ordering_then o (place_cmp d.place n.place))) (alike n of ∙ less))
      where
        less_if : (o : Ordering) → (o ≡ Equal → ⊥) → by_name o (is_at_or_before d.place place) ≡ true → o ≡ Less
        less_if Less unequal is = refl
        less_if Equal unequal is = absurd (unequal refl)
        less_if Greater unequal is = absurd (false≢true is)

        less : slice_cmp nat_cmp d.name name ≡ Less
        less = less_if (slice_cmp nat_cmp d.name name) (λ equal. false≢true (sym differs ∙ other_name d.name name equal)) up_to

-- ---- what was sorted

in_order : (found : List Found) → IsSortedBy (λ x y. is_lt (named_cmp (named x) (named y))) found → IsInOrder (all_named found)
in_order [] sorted k d low high = absurd (omega arith)
in_order (first ∷ found) sorted k d low high =
    let all = first ∷ found in
    let long : length (all_named all) ≡ length all = length-map all named in
    let at = λ (i : ℕ) (within : i < length all). get_or-map named all i first d within in
    ap₂ (λ x y. is_lt (named_cmp x y)) (at (k + 1) (omega arith)) (at k (omega arith))
    ∙ sorted k first low (omega arith)

-- a list that was sorted by a closure which answers by the order is in order
pub sorted_in_order : {F : Type 0} {g : Mut F (Bor Found × (Bor Found × Unit {0})) Ordering} {f : F} (found : List Found)
    → ((lt : Found → Found → Bool) → IsStrictWeakOrder lt → ComparesAs g lt f → IsSortedBy lt found)
    → ((a : Bor Found × (Bor Found × Unit {0})) (r : Ordering) (f' : F) → Called g f a r f' → (r ≡ named_cmp (named a.0.now) (named a.1.0.now)) × (f' ≡ f))
    → IsInOrder (all_named found)
sorted_in_order {g = g} {f = f} found sorted answers =
    in_order found (sorted (λ x y. is_lt (named_cmp (named x) (named y))) (ranks_by named_total named)
    (always_returns_same g (λ a r. is_lt r ≡ is_lt (named_cmp (named a.0.now) (named a.1.0.now))) f
    (λ a r f' k. (ap is_lt (answers a r f' k).0, (answers a r f' k).1))))
