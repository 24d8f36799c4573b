-- A walk along a line passes mappings that have no checkpoint: the count goes on, and the table stays.
use Rattle.std.proofs.Common.{◌≡◌, ℕ, ◌+◌, ◌-◌, ◌<◌, ◌≤◌, zero, suc, Bool, false, List, [], ◌∷◌, ◌++◌, length, take, drop, Option, Some, None, refl}
use Rattle.std.proofs.Common.{ap, sym, subst, ◌∙◌, arith, eqb, ⊎_elim}
use Rattle.std.specs.Prelude.{◌⊎◌, IfSome, MatchOption}
use Rattle.std.specs.List.{All, AllByRecursion, AllZip, last_or, list_any, slice_get}
use Rattle.std.proofs.lemmas.Bool.{and_from, cond-true, cond-false, lt-ltb, eq-eqb, ne_eqb, or_parts}
use Rattle.std.proofs.lemmas.List.{append-nil, take-append-drop}
use Rattle.std.proofs.lemmas.List.Elements.{recursion_from_All}
use Rattle.std.proofs.lemmas.List.Folds.{list_any-append}
use Rattle.std.specs.Prelude.{pos}
use Rattle.smap_mappings.specs.Counts.{segment_count}
use Rattle.smap_mappings.specs.Limits.{limit}
use Rattle.smap_mappings.specs.LineWalk.{IsPassed, IsStop, decoded_with}
use Rattle.smap_mappings.specs.Mappings.{deltas_of, mappings_of, values_on}
use Rattle.smap_mappings.specs.Order.{IsInOrder}
use Rattle.smap_mappings.specs.Range.{is_mapping_past_limit}
use Rattle.smap_mappings.specs.State.{mapping_at, values_at, IsAfter, IsMappingAt, IsOriginAt}
use Rattle.smap_mappings.specs.TextCheck.{AreOnLine}
use Rattle.smap_mappings.specs.Within.{IsWithin}
use Rattle.smap_mappings.specs.declared.cursor.Cursor.{Cursor}
use Rattle.smap_mappings.specs.declared.kind.Kind.{Kind}
use Rattle.smap_mappings.specs.declared.kind.Kind.TheVariants.{Unmapped, Mapped, Named}
use Rattle.smap_mappings.specs.declared.mapping.Mapping.{Mapping}
use Rattle.smap_mappings.specs.declared.mapping.Origin.{Origin}
use Rattle.smap_index.specs.Marks.{marked_segments, IsCheckpointIn}
use Rattle.smap_index.specs.Parts.{placed_mapping, placed}
use Rattle.smap_index.specs.Private.Walk.{number_after}
use Rattle.smap_index.specs.declared.checkpoint.Checkpoint.{Checkpoint}
use Rattle.smap_index.specs.declared.part.Part.{Part}
use Rattle.smap_index.proofs.CountingLaws.{IsCounting, IsMarked, counting_more, marked_segments-push, number_at, ordered_at}
use Rattle.smap_index.proofs.WalkLaws.{placed_there}
use Rattle.smap_mappings.specs.Laws.Counts.{length-mappings_of}
use Rattle.smap_mappings.specs.Laws.Lists.{last_taken, take_next, there_is}

same_natural : {m n : ℕ} → pos m ≡ pos n → m ≡ n
same_natural same = cc

-- ---- the values after a walk that passed nothing, and after the last mapping that it passed

module _ (a b : Cursor) (line : a.line ≡ b.line) (values : values_at a ≡ values_at b) where
  same_origin : (origin : Option Origin) → IfSome origin (IsOriginAt a) → IfSome origin (IsOriginAt b)
  same_origin None at = tt
  same_origin (Some origin) at = record {
    source = at.source ∙ same_natural (ap (λ v. v.source) values);
    line = at.line ∙ same_natural (ap (λ v. v.original_line) values);
    column = at.column ∙ same_natural (ap (λ v. v.original_column) values);
    name = same_name origin.name at.name;
  }
    where
      same_name : (name : Option ℕ) → IfSome name (λ name. name ≡ a.name) → IfSome name (λ name. name ≡ b.name)
      same_name None at = tt
      same_name (Some name) at = at ∙ same_natural (ap (λ v. v.name) values)

  same_mapping : (last : Option Mapping) → IfSome last (IsMappingAt a) → IfSome last (IsMappingAt b)
  same_mapping None at = tt
  same_mapping (Some m) at = record {
    line = at.line ∙ line;
    column = at.column ∙ same_natural (ap (λ v. v.column) values);
    origin = same_origin m.origin at.origin;
  }

pub is_at : (kind : Kind) (cursor : Cursor) → IsMappingAt cursor (mapping_at kind cursor)
is_at Unmapped cursor = record { line = refl; column = refl; origin = tt }
is_at Mapped cursor = record { line = refl; column = refl; origin = record { source = refl; line = refl; column = refl; name = tt } }
is_at Named cursor = record { line = refl; column = refl; origin = record { source = refl; line = refl; column = refl; name = refl } }

-- ---- what holds after mappings that stand on a line

module _ (part : Part) (n p row : ℕ) (inside : n + p ≤ segment_count part.text) (on_line : AreOnLine part.text row n (n + p)) where
  passed_at : (i : ℕ) → i < p → (m : Mapping) × (slice_get (mappings_of part.text) (n + i) ≡ Some m) × (m.line ≡ row)
  passed_at i less =
      let some = there_is (mappings_of part.text) (n + i) (omega (arith, length-mappings_of part.text, inside)) in
      (some.0, some.1, on_line (n + i) some.0 (omega arith) (omega arith) some.1)

  module _ (interval number : ℕ) (few : number + p < interval) (ordered : IsInOrder (mappings_of part.text))
      (so_far : IsCounting interval row number (take n (mappings_of part.text))) where
    next_counted : (i : ℕ) (m : Mapping) → i < p → m.line ≡ row → number_after interval row (number + i) m.line ≡ number + i + 1
    next_counted i m less line = cond-true _ _ _ (and_from _ _ (eq-eqb row m.line (sym line)) (lt-ltb (number + i + 1) interval (omega arith)))

    counting_to : (i : ℕ) → i ≤ p → IsCounting interval row (number + i) (take (n + i) (mappings_of part.text))
    counting_to zero within =
        let count : number ≡ number + 0 = omega arith in
        let place : n ≡ n + 0 = omega arith in
        subst (λ number. IsCounting interval row number (take (n + 0) (mappings_of part.text))) count
        (subst (λ n. IsCounting interval row number (take n (mappings_of part.text))) place so_far)
    counting_to (suc i) within =
        let list = mappings_of part.text in
        let at = passed_at i (omega arith) in
        let m = at.0 in
        let count : number + suc i ≡ number + i + 1 = omega arith in
        let place : n + i + 1 ≡ n + suc i = omega arith in
        let more = counting_more interval row (number + i) (number + suc i) (take (n + i) list) m (omega arith)
        (ordered_at list (n + i) m at.1 ordered) (counting_to i (omega arith)) (count ∙ sym (next_counted i m (omega arith) at.2)) in
        subst (λ line. IsCounting interval line (number + suc i) (take (n + suc i) list)) at.2
        (subst (λ front. IsCounting interval m.line (number + suc i) front) (sym (take_next list (n + i) m at.1) ∙ ap (λ n. take n list) place) more)

    pub counting_along : IsCounting interval row (number + p) (take (n + p) (mappings_of part.text))
    counting_along = counting_to p (omega arith)

    marks_stay : (i : ℕ) → i ≤ p → marked_segments interval [] (take (n + i) (placed part)) ≡ marked_segments interval [] (take n (placed part))
    unfolding placed
    marks_stay zero within = let place : n + 0 ≡ n = omega arith in ap (λ n. marked_segments interval [] (take n (placed part))) place
    marks_stay (suc i) within =
        let at = passed_at i (omega arith) in
        let m = at.0 in
        let here = placed_mapping part m in
        let front = take (n + i) (placed part) in
        let place : n + suc i ≡ n + i + 1 = omega arith in
        let there = placed_there part (n + i) m at.1 in
        let number_is = number_at part (n + i) m interval row (number + i) at.1 ordered (counting_to i (omega arith))
        ∙ next_counted i m (omega arith) at.2 in
        let other = ap (λ n. eqb n 0) number_is ∙ ne_eqb (number + i + 1) 0 (λ e. absurd (omega (arith, e))) in
        ap (λ n. marked_segments interval [] (take n (placed part))) place
        ∙ ap (marked_segments interval []) (take_next (placed part) (n + i) here there)
        ∙ marked_segments-push interval [] front here
        ∙ ap (λ last. marked_segments interval [] front ++ last) (cond-false _ (length front ∷ []) [] other)
        ∙ append-nil (marked_segments interval [] front)
        ∙ marks_stay i (omega arith)

    pub marked_along : (part_number : ℕ) (first table : List Checkpoint) → IsMarked part part_number interval (take n (placed part)) first table
        → IsMarked part part_number interval (take (n + p) (placed part)) first table
    marked_along part_number first table (added, is, zip) =
        (added, is, subst (λ segments. AllZip (IsCheckpointIn part part_number) segments added) (sym (marks_stay p (omega arith))) zip)

-- ---- what holds after a walk along a line

module _ (part : Part) (n : ℕ) (start after : Cursor) (end p : ℕ) (kind : Kind) (passed : IsPassed part.text n start end p kind after) where
  on_line : AreOnLine part.text start.line n (n + p)
  on_line i m from to there =
      let place : i ≡ n + (i - n) = omega (arith, from) in
      (passed.before (i - n) m (omega (arith, from, to)) (subst (λ i. slice_get (mappings_of part.text) i ≡ Some m) place there)).0

  pub last_passed : IsAfter part.text n start → IfSome (last_or None (take n (mappings_of part.text))) (IsMappingAt start)
      → IfSome (last_or None (take (n + p) (mappings_of part.text))) (IsMappingAt after)
  last_passed before so_far = by_count p refl
    where
      list : List Mapping
      list = mappings_of part.text

      by_count : (q : ℕ) → q ≡ p → IfSome (last_or None (take (n + p) list)) (IsMappingAt after)
      by_count zero none =
          let same : n + p ≡ n = omega arith in
          let values : values_at start ≡ values_at after =
          before.values ∙ (λ i. values_on (sym passed.line i) (take (sym same i) (deltas_of part.text))) ∙ sym passed.after.values in
          subst (λ n. IfSome (last_or None (take n list)) (IsMappingAt after)) (sym same)
          (same_mapping start after (sym passed.line) values (last_or None (take n list)) so_far)
      by_count (suc q) some =
          let place : n + p ≡ n + p - 1 + 1 = omega arith in
          let last : last_or None (take (n + p) list) ≡ Some (mapping_at kind after) =
          ap (λ n. last_or None (take n list)) place ∙ last_taken None list (n + p - 1) (mapping_at kind after) (passed.last (omega arith)) in
          subst (λ last. IfSome last (IsMappingAt after)) (sym last) (is_at kind after)

  module _ (interval number : ℕ) (few : number + p < interval) (ordered : IsInOrder (mappings_of part.text))
      (so_far : IsCounting interval start.line number (take n (mappings_of part.text))) where
    pub counting_passed : IsCounting interval after.line (number + p) (take (n + p) (mappings_of part.text))
    counting_passed =
        subst (λ line. IsCounting interval line (number + p) (take (n + p) (mappings_of part.text))) (sym passed.line)
        (counting_along part n p start.line passed.after.count on_line interval number few ordered so_far)

    pub marked_passed : (part_number : ℕ) (first table : List Checkpoint) → IsMarked part part_number interval (take n (placed part)) first table
        → IsMarked part part_number interval (take (n + p) (placed part)) first table
    marked_passed = marked_along part n p start.line passed.after.count on_line interval number few ordered so_far

-- where no mapping of a list passes a test, none up to a place does
none_up_to : (test : Mapping → Bool) (list : List Mapping) (j : ℕ) → list_any test list ≡ false → list_any test (take j list) ≡ false
none_up_to test list j none =
    (or_parts _ _ (sym (list_any-append test (take j list) (drop j list)) ∙ ap (list_any test) (take-append-drop j list) ∙ none)).0

-- where none is past the limit, or none was passed, none more is past it
pub same_past : (list : List Mapping) (n p : ℕ) → (p ≡ 0) ⊎ (list_any is_mapping_past_limit list ≡ false)
    → list_any is_mapping_past_limit (take n list) ≡ list_any is_mapping_past_limit (take (n + p) list)
same_past list n p =
    ⊎_elim
    (λ none. let place : n ≡ n + p = omega arith in ap (λ n. list_any is_mapping_past_limit (take n list)) place)
    (λ within. none_up_to is_mapping_past_limit list n within ∙ sym (none_up_to is_mapping_past_limit list (n + p) within))

column_within : (sources names : ℕ) (list : List Mapping) (j : ℕ) (m : Mapping) → AllByRecursion (IsWithin sources names) list
    → slice_get list j ≡ Some m → m.column ≤ limit
column_within sources names [] j m all there = absurd (cc)
column_within sources names (x ∷ list) zero m all there = let same : x ≡ m = cc in subst (λ (m : Mapping). m.column ≤ limit) same all.0.column
column_within sources names (x ∷ list) (suc j) m all there = column_within sources names list j m all.1 there

-- a walk up to a column past the limit decodes what it passes and no more
pub all_decoded : (text : List ℕ) (sources names j end p : ℕ) (start : Cursor) (A : Type 0) (next : Option (Kind × Cursor))
    → All (IsWithin sources names) (mappings_of text) → limit < end
    → MatchOption next A (λ next. IsStop text j start end (mapping_at next.0 next.1)) → decoded_with p next ≡ p
all_decoded text sources names j end p start A None within past stops = refl
all_decoded text sources names j end p start A (Some next) within past stops =
    let small = column_within sources names (mappings_of text) j (mapping_at next.0 next.1)
    (recursion_from_All (IsWithin sources names) (mappings_of text) within) stops.mapping_is in
    absurd (omega (arith, small, stops.past, past))
