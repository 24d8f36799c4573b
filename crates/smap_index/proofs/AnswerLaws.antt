-- In a list in order the last mapping up to a position decides what answers at the position or before it, and the first
-- that is not before it what answers at it or after.
use Rattle.std.proofs.Common.{◌≡◌, ℕ, ◌<◌, true, false, List, [], ◌∷◌, take, filter, Option, Some, None, leb, refl, sym, ap, ◌∙◌, arith, ⊎_elim, inr}
use Rattle.std.specs.List.{find, last_or}
use Rattle.std.proofs.lemmas.Bool.{cond-true, cond-false, cases_Bool, eqb-true, eq-eqb, ne_eqb, leb-true, le-leb, and_parts, and_from, and_left}
use Rattle.std.proofs.lemmas.Bool.{both_ways, not-true, not_from_false, false_from_ne_true}
use Rattle.smap_mappings.specs.Order.{IsAtOrBefore, IsInOrder}
use Rattle.smap_mappings.specs.Range.{position_at}
use Rattle.smap_mappings.specs.declared.mapping.Mapping.{Mapping}
use Rattle.smap_index.specs.Answer.{is_on_line_at_or_before, is_on_line_at_or_after, answer_of_last, answer_at_or_before, answer_at_or_after}
use Rattle.smap_index.specs.Private.Search.{is_up_to, through, up_to, front_up_to, last_up_to, first_past, on_line, from_line}
use Rattle.smap_index.proofs.BoundLaws.{passes_back}
use Rattle.smap_index.proofs.LastLaws.{passes, stops, first_passes, first_stops}
use Rattle.smap_mappings.specs.Laws.Order.{from_not_before, not_before, tail_in_order}

module _ (line column : ℕ) where
  pub on_line_same : (m : Mapping) → m.line ≡ line → on_line line (Some m) ≡ Some m
  on_line_same m same = cond-true _ _ _ (eq-eqb _ _ same)

  pub on_line_other : (m : Mapping) → (m.line ≡ line → ⊥) → on_line line (Some m) ≡ None
  on_line_other m other = cond-false _ _ _ (ne_eqb _ _ other)

  -- ---- at the position or before it

  -- nothing, or a mapping from which on this list is in order
  abbrev Precedes : Option Mapping → List Mapping → Type 0
  Precedes None xs = IsInOrder xs
  Precedes (Some m) xs = IsInOrder (m ∷ xs)

  reached : (m : Mapping) → is_up_to (through line column) m ≡ true → IsAtOrBefore m (position_at line column)
  reached m is = not_before m (position_at line column) (not-true _ is)

  kept_reached : (m : Mapping) → is_up_to (through line column) m ≡ false → is_on_line_at_or_before line column m ≡ false
  kept_reached m past =
      false_from_ne_true _
      (λ kept.
      let parts = and_parts _ _ kept in
      both_ways _ past (not_from_false _ (from_not_before m (position_at line column) (inr (eqb-true m.line line parts.0, leb-true m.column column parts.1)))))

  none_kept : (a : Mapping) (xs : List Mapping) → IsInOrder (a ∷ xs) → is_up_to (through line column) a ≡ false
      → filter (is_on_line_at_or_before line column) (a ∷ xs) ≡ []
  none_kept a [] order past = cond-false _ _ _ (kept_reached a past)
  none_kept a (b ∷ xs) order past =
      ⊎_elim
      (λ yes. absurd (both_ways _ past (passes_back (through line column) a b order.0 yes)))
      (λ no. cond-false _ _ _ (kept_reached a past) ∙ none_kept b xs order.1 no)
      (cases_Bool (is_up_to (through line column) b))

  -- of a mapping before the line and those before it, none is on the line
  on_line_none : (e : Option Mapping) (a : Mapping) (xs : List Mapping) → Precedes e (a ∷ xs) → a.line < line → on_line line e ≡ None
  on_line_none None a xs order above = refl
  on_line_none (Some m) a xs order above = on_line_other m
      (λ same. ⊎_elim (λ (before : m.line < a.line). omega arith) (λ equal. omega (arith, equal.0)) order.0)

  later : (e : Option Mapping) (a : Mapping) (xs : List Mapping) → Precedes e (a ∷ xs) → IsInOrder (a ∷ xs)
  later None a xs order = order
  later (Some m) a xs order = order.1

  kept_last : (e : Option Mapping) (xs : List Mapping) → Precedes e xs
      → last_or (on_line line e) (filter (is_on_line_at_or_before line column) xs) ≡ on_line line (last_or e (take (front_up_to (through line column) xs) xs))
  kept_last e [] order = refl
  kept_last e (a ∷ xs) order =
      ⊎_elim
      (λ yes. step yes ∙ kept_last (Some a) xs (later e a xs order)
      ∙ ap (λ n. on_line line (last_or e (take n (a ∷ xs)))) (sym (passes (through line column) a xs yes)))
      (λ no. ap (last_or (on_line line e)) (none_kept a xs (later e a xs order) no)
      ∙ ap (λ n. on_line line (last_or e (take n (a ∷ xs)))) (sym (stops (through line column) a xs no)))
      (cases_Bool (is_up_to (through line column) a))
    where
      step : is_up_to (through line column) a ≡ true
          → last_or (on_line line e) (filter (is_on_line_at_or_before line column) (a ∷ xs))
          ≡ last_or (on_line line (Some a)) (filter (is_on_line_at_or_before line column) xs)
      step here =
          ⊎_elim
          (λ kept.
          ap (last_or (on_line line e)) (cond-true _ _ _ kept)
          ∙ ap (λ o. last_or o (filter (is_on_line_at_or_before line column) xs)) (sym (on_line_same a (eqb-true _ _ (and_parts _ _ kept).0))))
          (λ left.
          let above : a.line < line = ⊎_elim (λ above. above)
          (λ same. absurd (both_ways _ left (and_from _ _ (eq-eqb _ _ same.0) (le-leb _ _ same.1)))) (reached a here) in
          ap (last_or (on_line line e)) (cond-false _ _ _ left)
          ∙ ap (λ o. last_or o (filter (is_on_line_at_or_before line column) xs))
          (on_line_none e a xs order above ∙ sym (on_line_other a (λ same. omega arith))))
          (cases_Bool (is_on_line_at_or_before line column a))

  -- where the last mapping up to the position stands on the line, it answers, else nothing does
  pub last_answers : (list : List Mapping) → IsInOrder list
      → answer_at_or_before list line column ≡ answer_of_last (on_line line (last_up_to (through line column) list))
  unfolding answer_at_or_before
  last_answers list order = ap answer_of_last (kept_last None list order)

  -- ---- at the position or after it

  -- one before the position is not kept
  not_kept : (m : Mapping) → is_up_to (up_to line column) m ≡ true → is_on_line_at_or_after line column m ≡ false
  not_kept m is =
      false_from_ne_true _
      (λ kept.
      let parts = and_parts _ _ kept in
      both_ways _ (from_not_before (position_at line column) m (inr (sym (eqb-true m.line line parts.0), leb-true column m.column parts.1))) is)

  not_on_line : (a : Mapping) → line < a.line → is_on_line_at_or_after line column a ≡ false
  not_on_line a below = and_left _ _ (ne_eqb a.line line (λ same. omega arith))

  none_on_line : (a : Mapping) (xs : List Mapping) → IsInOrder (a ∷ xs) → line < a.line → find (is_on_line_at_or_after line column) (a ∷ xs) ≡ None
  none_on_line a [] order below = cond-false _ _ _ (not_on_line a below)
  none_on_line a (b ∷ xs) order below =
      let further : line < b.line = ⊎_elim (λ (above : a.line < b.line). omega arith) (λ same. omega (arith, same.0)) order.0 in
      cond-false _ _ _ (not_on_line a below) ∙ none_on_line b xs order.1 further

  found_first : (list : List Mapping) → IsInOrder list → find (is_on_line_at_or_after line column) list ≡ on_line line (first_past (up_to line column) list)
  found_first [] order = refl
  found_first (a ∷ xs) order =
      ⊎_elim
      (λ yes. cond-false _ _ _ (not_kept a yes) ∙ found_first xs (tail_in_order a xs order)
      ∙ ap (on_line line) (sym (first_passes (up_to line column) a xs yes)))
      (λ no. found no ∙ ap (on_line line) (sym (first_stops (up_to line column) a xs no)))
      (cases_Bool (is_up_to (up_to line column) a))
    where
      found : is_up_to (up_to line column) a ≡ false → find (is_on_line_at_or_after line column) (a ∷ xs) ≡ on_line line (Some a)
      found past =
          ⊎_elim
          (λ (below : line < a.line). none_on_line a xs order below ∙ sym (on_line_other a (λ same. omega arith)))
          (λ same. cond-true _ _ _ (and_from _ _ (eq-eqb a.line line (sym same.0)) (le-leb column a.column same.1)) ∙ sym (on_line_same a (sym same.0)))
          (not_before (position_at line column) a past)

  -- where the first mapping that is not before the position stands on the line, it answers, else nothing does
  pub first_answers : (list : List Mapping) → IsInOrder list
      → answer_at_or_after list line column ≡ answer_of_last (on_line line (first_past (up_to line column) list))
  unfolding answer_at_or_after
  first_answers list order = ap answer_of_last (found_first list order)

-- ---- on a line or after it

pub from_first : (mapping : Option Mapping) → from_line 0 mapping ≡ mapping
from_first None = refl
from_first (Some m) = cond-true (leb 0 m.line) (Some m) None (le-leb 0 m.line (omega arith))

pub on_from : (line : ℕ) (mapping : Option Mapping) → on_line line (from_line line mapping) ≡ on_line line mapping
on_from line None = refl
on_from line (Some m) =
    ⊎_elim
    (λ least. ap (on_line line) (cond-true (leb line m.line) (Some m) None least))
    (λ above. ap (on_line line) (cond-false (leb line m.line) (Some m) None above)
    ∙ sym (on_line_other line 0 m (λ same. both_ways _ above (le-leb line m.line (omega arith)))))
    (cases_Bool (leb line m.line))
