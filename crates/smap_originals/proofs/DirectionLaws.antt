-- What is found answers, and what has an original is found.
use Rattle.std.proofs.Common.{◌≡◌, ℕ, ◌<◌, suc, zero, Bool, true, false, leb, List, [], ◌∷◌, ◌++◌, length, get_or, refl, sym, ap, subst, ◌∙◌, arith, ⊎_elim}
use Rattle.std.specs.Prelude.{Option, None, Some, not, ◌==◌, filter}
use Rattle.std.specs.List.{All, Contains, last_or}
use Rattle.std.proofs.lemmas.Bool.{and_from, and_parts, both_ways, cases_Bool, cond-false, cond-true, eq-eqb, eqb-true, false_from_ne_true, le-leb, le-ltb, leb-true, not_from_false}
use Rattle.std.proofs.lemmas.List.Elements.{All-cons, All-filter, All-nil, All-weaker, filter-append, filter_passes}
use Rattle.std.proofs.lemmas.List.Folds.{list_any_none}
use Rattle.smap_index.specs.Answer.{answer_at_or_before, answer_of_last, answer_with, is_on_line_at_or_before}
use Rattle.smap_index.proofs.PositionLaws.{at_or_before}
use Rattle.smap_mappings.specs.Laws.Lists.{last_or-push}
use Rattle.smap_mappings.specs.Order.{IsAtOrBefore, IsInOrder}
use Rattle.smap_mappings.specs.declared.mapping.Mapping.{Mapping}
use Rattle.smap_mappings.specs.declared.mapping.Origin.{Origin}
use Rattle.smap_originals.specs.Generated.{column_of, generated_for, generated_next, has_nearer, is_nearer, is_on_side, is_origin_on, on_side}
use Rattle.smap_originals.specs.Laws.{AnswersOn, IsLastAtItsPlace, is_at_place_of}
use Rattle.smap_originals.specs.declared.asked.OriginalDirection.{OriginalDirection}
use Rattle.smap_originals.specs.declared.asked.OriginalDirection.TheVariants.{AtOrBefore, AtOrAfter}
use Rattle.smap_originals.proofs.ListLaws.{any_none, none_kept}

-- ---- each is found

kept_at : {X : Type 0} (p : X → Bool) (xs : List X) (x : X) (k : ℕ) → p x ≡ true → k < length xs → get_or xs k x ≡ x → Contains (filter p xs) x
kept_at p [] x k is inside same = absurd (omega arith)
kept_at p (y ∷ ys) x zero is inside same =
    let kept = cond-true (p y) (y ∷ filter p ys) (filter p ys) (ap p same ∙ is) in
    subst (λ l. Contains l x) (sym kept) (zero, omega arith, same)
kept_at p (y ∷ ys) x (suc k) is inside same =
    let rest = kept_at p ys x k is (omega arith) same in
    ⊎_elim
    (λ kept. subst (λ l. Contains l x) (sym (cond-true (p y) (y ∷ filter p ys) (filter p ys) kept)) (suc rest.0, omega (arith, rest.1), rest.2))
    (λ left. subst (λ l. Contains l x) (sym (cond-false (p y) (y ∷ filter p ys) (filter p ys) left)) rest)
    (cases_Bool (p y))

contains_kept : {X : Type 0} (p : X → Bool) (xs : List X) (x : X) → p x ≡ true → Contains xs x → Contains (filter p xs) x
contains_kept p xs x is there = kept_at p xs x there.0 is there.1 there.2

side_of_itself : (direction : OriginalDirection) (column : ℕ) → is_on_side direction column column ≡ true
side_of_itself AtOrBefore column = le-leb column column (omega arith)
side_of_itself AtOrAfter column = le-leb column column (omega arith)

none_nearer_than_asked : (direction : OriginalDirection) (asked column : ℕ) → is_on_side direction asked column ≡ true → is_nearer direction column asked ≡ false
none_nearer_than_asked AtOrBefore asked column inside = le-ltb asked column (leb-true column asked inside)
none_nearer_than_asked AtOrAfter asked column inside = le-ltb column asked (leb-true asked column inside)

pub found_itself : (direction : OriginalDirection) (list : List Mapping) (m : Mapping) (o : Origin) → Contains list m → m.origin ≡ Some o
    → Contains (generated_next direction list o.source o.line o.column) m
unfolding generated_next
found_itself direction list m o there origin =
    let on_line = generated_for list o.source o.line in
    let near = on_side direction o.column on_line in
    let column_is : column_of m.origin ≡ o.column = ap column_of origin in
    let here : is_origin_on o.source o.line m.origin ≡ true =
    ap (is_origin_on o.source o.line) origin ∙ and_from (o.source == o.source) (o.line == o.line) (eq-eqb o.source o.source refl) (eq-eqb o.line o.line refl) in
    let inside : is_on_side direction o.column (column_of m.origin) ≡ true = ap (is_on_side direction o.column) column_is ∙ side_of_itself direction o.column in
    let none : has_nearer direction near o.column ≡ false =
    list_any_none (λ x. is_nearer direction (column_of x.origin) o.column) near
    (All-weaker (λ x. is_on_side direction o.column (column_of x.origin) ≡ true) (λ x. is_nearer direction (column_of x.origin) o.column ≡ false)
    (λ x is. none_nearer_than_asked direction o.column (column_of x.origin) is) near
    (filter_passes (λ x. is_on_side direction o.column (column_of x.origin)) on_line)) in
    contains_kept (λ x. not (has_nearer direction near (column_of x.origin))) near m
    (ap (λ c. not (has_nearer direction near c)) column_is ∙ not_from_false (has_nearer direction near o.column) none)
    (contains_kept (λ x. is_on_side direction o.column (column_of x.origin)) on_line m inside
    (contains_kept (λ x. is_origin_on o.source o.line x.origin) list m here there))

-- ---- what is found answers

all_behind : (m : Mapping) (xs : List Mapping) → IsInOrder (m ∷ xs) → All (IsAtOrBefore m) xs
all_behind m [] order = All-nil (IsAtOrBefore m)
all_behind m (x ∷ xs) order =
    All-cons (IsAtOrBefore m) x xs order.0
    (All-weaker (IsAtOrBefore x) (IsAtOrBefore m) (λ y behind. at_or_before m x y order.0 behind) xs (all_behind x xs order.1))

order_from : (front back : List Mapping) (m : Mapping) → IsInOrder (front ++ m ∷ back) → IsInOrder (m ∷ back)
order_from [] back m order = order
order_from (x ∷ []) back m order = order.1
order_from (x ∷ y ∷ front) back m order = order_from (y ∷ front) back m order.1

none_later : (m b : Mapping) → IsAtOrBefore m b → is_at_place_of m b ≡ false → is_on_line_at_or_before m.line m.column b ≡ false
none_later m b order apart = false_from_ne_true (is_on_line_at_or_before m.line m.column b) (λ is.
    let parts = and_parts (b.line == m.line) (leb b.column m.column) is in
    let line_is = eqb-true b.line m.line parts.0 in
    let column_is = leb-true b.column m.column parts.1 in
    ⊎_elim
    (λ less. omega (arith, less, line_is))
    (λ same. both_ways (is_at_place_of m b) apart
    (and_from (b.line == m.line) (b.column == m.column) parts.0 (eq-eqb b.column m.column (omega (arith, same.1, column_is)))))
    order)

module _ (source line : ℕ) where
  answers_with : (column : ℕ) (o : Option Origin) → is_origin_on source line o ≡ true → AnswersOn source line (answer_with column o)
  answers_with column None is = absurd (cc)
  answers_with column (Some o) is =
      let parts = and_parts (o.source == source) (o.line == line) is in
      (eqb-true o.source source parts.0, eqb-true o.line line parts.1)

  answers_here : (list : List Mapping) → IsInOrder list → (m : Mapping) → is_origin_on source line m.origin ≡ true → IsLastAtItsPlace list m
      → AnswersOn source line (answer_at_or_before list m.line m.column)
  unfolding answer_at_or_before
  answers_here list order m is last =
      let test = is_on_line_at_or_before m.line m.column in
      let behind = order_from last.front last.back m (subst IsInOrder last.list_is order) in
      let apart = any_none (is_at_place_of m) last.back last.none_behind in
      let later : All (λ b. test b ≡ false) last.back =
      λ k d inside. none_later m (get_or last.back k d) (all_behind m last.back behind k d inside) (apart k d inside) in
      let here : test m ≡ true = and_from (m.line == m.line) (leb m.column m.column) (eq-eqb m.line m.line refl) (le-leb m.column m.column (omega arith)) in
      let kept : filter test (m ∷ last.back) ≡ m ∷ [] =
      cond-true (test m) (m ∷ filter test last.back) (filter test last.back) here ∙ ap (λ l. m ∷ l) (none_kept test last.back later) in
      let found : last_or None (filter test list) ≡ Some m =
      ap (λ l. last_or None (filter test l)) last.list_is ∙ ap (last_or None) (filter-append test last.front (m ∷ last.back))
      ∙ ap (λ l. last_or None (filter test last.front ++ l)) kept ∙ last_or-push None (filter test last.front) m in
      subst (λ o. AnswersOn source line (answer_of_last o)) (sym found) (answers_with m.column m.origin is)

  pub all_answer : (direction : OriginalDirection) (list : List Mapping) (column : ℕ) → IsInOrder list
      → All (λ m. IsLastAtItsPlace list m → AnswersOn source line (answer_at_or_before list m.line m.column)) (generated_next direction list source line column)
  unfolding generated_next
  all_answer direction list column order =
      let on_line = generated_for list source line in
      let near = on_side direction column on_line in
      let all : All (λ m. is_origin_on source line m.origin ≡ true) on_line = filter_passes (λ m. is_origin_on source line m.origin) list in
      let nearest_all = All-filter (λ m. not (has_nearer direction near (column_of m.origin))) (λ m. is_origin_on source line m.origin ≡ true) near
      (All-filter (λ m. is_on_side direction column (column_of m.origin)) (λ m. is_origin_on source line m.origin ≡ true) on_line all) in
      All-weaker (λ m. is_origin_on source line m.origin ≡ true)
      (λ m. IsLastAtItsPlace list m → AnswersOn source line (answer_at_or_before list m.line m.column))
      (answers_here list order) (generated_next direction list source line column) nearest_all
