-- There are few marks: at most one for as many segments as the interval says, and one for each line that holds a segment.
use Rattle.std.proofs.Common.{◌≡◌, ℕ, ◌+◌, ◌*◌, ◌/◌, ◌%◌, ◌<◌, ◌≤◌, suc, List, [], ◌∷◌, ◌++◌, length, map, filter, cond, true, refl, ap, sym, subst}
use Rattle.std.proofs.Common.{◌∙◌, arith, eqb, eq-eqb, ⊎_elim, inl, inr, ◌⊎◌}
use Rattle.std.proofs.Math.Nat.{mod-le, mul-le-mul_left, add-mul-div_left}
use Rattle.std.proofs.lemmas.Nat.{le-div}
use Rattle.std.proofs.lemmas.Bool.{cond-true, cond-false, cond_both, cases_Bool, eqb-true, or_cases, false_from_ne_true}
use Rattle.std.proofs.lemmas.List.{append_assoc, length-append, length-map}
use Rattle.std.proofs.lemmas.List.Elements.{filter-append}
use Rattle.std.proofs.lemmas.List.Folds.{list_any-append}
use Rattle.std.proofs.lemmas.List.Sums.{sum_by-cons}
use Rattle.smap_mappings.specs.Counts.{new_lines, used_lines_of}
use Rattle.smap_mappings.specs.Mappings.{Delta, deltas_of, has_segment_on, mapping_after, mappings_after, mappings_of}
use Rattle.smap_mappings.specs.Order.{IsInOrder}
use Rattle.smap_mappings.specs.declared.mapping.Mapping.{Mapping}
use Rattle.smap_index.specs.declared.part.Part.{Part}
use Rattle.smap_index.specs.Parts.{placed_mapping, placed, joined}
use Rattle.smap_index.specs.Marks.{mark_in, number_on_line, marked_segments, marks_from, marks, used_lines_in}
use Rattle.smap_index.proofs.NumberLaws.{next_remainder, front_in_order, back_in_order, next_number}

-- ---- one segment more, in numbers alone

-- the remainder grows by one at most, and falls to 0 only from the greatest
grows : (j interval : ℕ) → 0 < interval → ((j + 1) % interval ≤ j % interval + 1) × ((j + 1) % interval ≡ 0 → interval ≤ j % interval + 1)
grows j interval positive =
    ⊎_elim
    (λ more. (omega (arith, more.0), λ (none : (j + 1) % interval ≡ 0). absurd (omega (arith, more.0, none))))
    (λ none. (omega (arith, none.0), λ _. omega (arith, none.1)))
    (next_remainder j interval positive)

-- Segment x has the number next: it stands after number j on one line, or it is the first of a new line. The interval times
-- the marks is at most the segments, the remainder at the segment before them, and the interval times the new lines: where
-- this holds of the n segments after x, it holds from x on.
one_more : (interval j next n lines new x : ℕ) (marked : List ℕ) → 0 < interval → (next ≡ j + 1) ⊎ ((next ≡ 0) × (new ≡ 1))
    → interval * length marked ≤ n + next % interval + interval * lines
    → interval * length (cond (eqb (next % interval) 0) (x ∷ marked) marked) ≤ suc n + j % interval + interval * (new + lines)
one_more interval j next n lines new x marked positive which few =
    let all = λ (list : List ℕ). interval * length list ≤ suc n + j % interval + interval * (new + lines) in
    ⊎_elim
    (λ (same : next ≡ j + 1).
    let number : next % interval ≡ (j + 1) % interval = ap (λ n. n % interval) same in
    let grown = grows j interval positive in
    let more : interval * lines ≤ interval * (new + lines) = mul-le-mul_left interval (omega arith) in
    cond_both (eqb (next % interval) 0) (x ∷ marked) marked all
    (λ is. let none : next % interval ≡ 0 = eqb-true _ _ is in let most = grown.1 (sym number ∙ none) in omega (arith, few, none, most, more))
    (λ is_not. omega (arith, few, number, grown.0, more)))
    (λ first.
    let none : next % interval ≤ 0 = subst (λ n. n % interval ≤ 0) (sym first.0) (mod-le 0 interval) in
    let more : interval * (new + lines) ≡ interval + interval * lines = ap (λ n. interval * (n + lines)) first.1 ∙ omega arith in
    cond_both (eqb (next % interval) 0) (x ∷ marked) marked all (λ is. omega (arith, few, none, more)) (λ is_not. omega (arith, few, none, more)))
    which

-- ---- the lines of a text and of its part

-- where a line of the text holds one of these segments, the part's line holds one of these mappings
abbrev HoldsToo : Part → List Delta → List Mapping → Type 0
HoldsToo part deltas mappings = (line : ℕ) → has_segment_on line deltas ≡ true → 0 < length (filter (λ (e : Mapping). eqb e.line (part.line + line)) mappings)

holds_next : (part : Part) (deltas : List Delta) (mappings : List Mapping) (delta : Delta) (mapping : Mapping)
    → mapping.line ≡ part.line + delta.line → HoldsToo part deltas mappings → HoldsToo part (deltas ++ delta ∷ []) (mappings ++ mapping ∷ [])
holds_next part deltas mappings delta mapping line_is holds line has =
    let on = λ (e : Mapping). eqb e.line (part.line + line) in
    let both : length (filter on (mappings ++ mapping ∷ [])) ≡ length (filter on mappings) + length (filter on (mapping ∷ [])) =
    ap length (filter-append on mappings (mapping ∷ [])) ∙ length-append _ _ in
    ⊎_elim
    (λ earlier. let some = holds line earlier in omega (arith, both, some))
    (λ last. ⊎_elim
    (λ is.
    let same : delta.line ≡ line = eqb-true _ _ is in
    let one : length (filter on (mapping ∷ [])) ≡ 1 =
    ap length (cond-true (on mapping) (mapping ∷ []) [] (eq-eqb _ _ (line_is ∙ ap (λ line. part.line + line) same))) in
    omega (arith, both, one))
    (λ is_not. absurd (cc))
    (or_cases _ _ last))
    (or_cases _ _ (sym (list_any-append (λ (e : Delta). eqb e.line line) deltas (delta ∷ [])) ∙ has))

-- ---- the marks of a part

module _ (part : Part) (interval : ℕ) (positive : 0 < interval) where
  -- the placed mappings of these segments of the part's text, which stand after those before
  abbrev after : List Delta → List Delta → List Mapping
  after before deltas = map (placed_mapping part) (mappings_after before deltas)

  few_after : (before : List Mapping) (last : Mapping) (earlier deltas : List Delta) → HoldsToo part earlier (before ++ last ∷ [])
      → IsInOrder (before ++ last ∷ after earlier deltas)
      → interval * length (marked_segments interval (before ++ last ∷ []) (after earlier deltas)) ≤ length (after earlier deltas) + number_on_line before
      last % interval + interval * new_lines earlier deltas
  unfolding mapping_after
  few_after before last earlier [] holds order = omega arith
  few_after before last earlier (delta ∷ deltas) holds order =
      let front = before ++ last ∷ [] in
      let next = placed_mapping part (mapping_after earlier delta) in
      let rest = after (earlier ++ delta ∷ []) deltas in
      let ordered : IsInOrder (front ++ next ∷ rest) = subst IsInOrder (sym (append_assoc before (last ∷ []) (next ∷ rest))) order in
      let up_to_next : IsInOrder (before ++ last ∷ next ∷ []) =
      front_in_order (before ++ last ∷ next ∷ []) rest (subst IsInOrder (sym (append_assoc before (last ∷ next ∷ []) rest)) order) in
      let number = next_number before last next up_to_next in
      one_more interval (number_on_line before last) (number_on_line front next) (length rest) (new_lines (earlier ++ delta ∷ []) deltas)
      (cond (has_segment_on delta.line earlier) 0 1) (length front) (marked_segments interval (front ++ next ∷ []) rest) positive
      (⊎_elim
      (λ same. inl (number ∙ cond-true _ _ _ same))
      (λ other.
      let first : number_on_line front next ≡ 0 = number ∙ cond-false _ _ _ other in
      inr (first, cond-false _ _ _ (false_from_ne_true _ (λ held. let some = holds delta.line held in omega (arith, first, some)))))
      (cases_Bool (eqb last.line next.line)))
      (few_after front next (earlier ++ delta ∷ []) deltas (holds_next part earlier front delta next refl holds) ordered)

  few_of : (deltas : List Delta) → IsInOrder (after [] deltas)
      → interval * length (marked_segments interval [] (after [] deltas)) ≤ length (after [] deltas) + interval * new_lines [] deltas
  unfolding mapping_after
  few_of [] order = omega arith
  few_of (delta ∷ deltas) order =
      let first = placed_mapping part (mapping_after [] delta) in
      let rest = after (delta ∷ []) deltas in
      let none = mod-le 0 interval in
      let more =
      one_more interval 0 0 (length rest) (new_lines (delta ∷ []) deltas) 1 0 (marked_segments interval (first ∷ []) rest) positive (inr (refl, refl))
      (few_after [] first (delta ∷ []) deltas (holds_next part [] [] delta first refl (λ line has. absurd (cc))) order) in
      omega (arith, more, none)

  few_in_part : IsInOrder (placed part)
      → interval * length (marked_segments interval [] (placed part)) ≤ length (placed part) + interval * used_lines_of part.text
  unfolding placed mappings_of used_lines_of
  few_in_part order = few_of (deltas_of part.text) order

-- ---- the marks of all parts

few_from : (i : ℕ) (parts : List Part) (interval : ℕ) → 0 < interval → IsInOrder (joined parts)
    → interval * length (marks_from i parts interval) ≤ length (joined parts) + interval * used_lines_in parts
few_from i [] interval positive order = omega arith
few_from i (part ∷ parts) interval positive order =
    let here = few_in_part part interval positive (front_in_order (placed part) (joined parts) order) in
    let rest = few_from (i + 1) parts interval positive (back_in_order (placed part) (joined parts) order) in
    let segments = length-append (placed part) (joined parts) in
    let number : length (marks_from i (part ∷ parts) interval)
    ≡ length (marked_segments interval [] (placed part)) + length (marks_from (i + 1) parts interval) =
    length-append (map (mark_in i) (marked_segments interval [] (placed part))) (marks_from (i + 1) parts interval)
    ∙ ap (λ n. n + length (marks_from (i + 1) parts interval)) (length-map (marked_segments interval [] (placed part)) (mark_in i)) in
    let lines = ap (λ n. interval * n) (sum_by-cons (λ (p : Part). used_lines_of p.text) part parts) in
    let all = ap (λ n. interval * n) number in
    omega (arith, here, rest, segments, lines, all)

-- at most one mark for as many segments as the interval says, and one for each line that holds a segment
pub few_marks : (parts : List Part) (interval : ℕ) → 0 < interval → IsInOrder (joined parts)
    → length (marks parts interval) ≤ length (joined parts) / interval + used_lines_in parts
few_marks parts interval positive order =
    let few = few_from 0 parts interval positive order in
    let quotient = le-div (length (marks parts interval)) (length (joined parts) + interval * used_lines_in parts) interval positive (omega (arith, few)) in
    let split = add-mul-div_left (length (joined parts)) (used_lines_in parts) positive in
    omega (arith, quotient, split)
