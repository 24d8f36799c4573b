-- The mappings of an accepted text are in order.
use Rattle.std.proofs.Common.{◌≡◌, ℕ, ◌+◌, ◌≤◌, suc, zero, true, false, eqb, List, [], ◌∷◌, ◌++◌, length, drop, map, filter, Some, sym, ap, subst}
use Rattle.std.proofs.Common.{◌∙◌, arith, eq-eqb, ⊎_elim, inl, inr}
use Rattle.std.specs.Prelude.{ℤ, pos, negsuc, ◌+ℤ◌, int_lt}
use Rattle.std.specs.List.{list_any, slice_get, slice_split}
use Rattle.std.proofs.lemmas.Bool.{and_parts, or_cases, or_left, or_right, not-true, both_ways, cases_order}
use Rattle.std.proofs.lemmas.Int.{ints}
use Rattle.std.proofs.lemmas.List.{drop-map}
use Rattle.smap_mappings.specs.Segments.{TextSegment, is_nonempty, is_comma, is_semicolon, parts_from, segment_on, segments_on, segments_of_lines}
use Rattle.smap_mappings.specs.Segments.{segments_from, segments_of}
use Rattle.smap_mappings.specs.Mappings.{Delta, RunningValues, delta_of, deltas_of, difference, natural, values_on, mapping_after, mappings_after, mappings_of}
use Rattle.smap_mappings.specs.Accepted.{is_accepted_after, are_accepted_after, is_accepted, IsAccepted}
use Rattle.smap_mappings.specs.Order.{IsAtOrBefore, IsInOrder}
use Rattle.smap_mappings.specs.State.{IsAfter}
use Rattle.smap_mappings.specs.declared.cursor.Cursor.{Cursor}
use Rattle.smap_mappings.specs.declared.mapping.Mapping.{Mapping}
use Rattle.smap_mappings.proofs.DeltaLaws.{values-push}
use Rattle.smap_mappings.proofs.Ranges.{in_range_natural, each_in_range}
use Rattle.smap_mappings.specs.Laws.Lists.{some_same}

-- the lines of the segments don't fall, and none is before this one
abbrev pub LinesRise : ℕ → List Delta → Type 0
LinesRise line [] = Unit {0}
LinesRise line (delta ∷ deltas) = (line ≤ delta.line) × LinesRise delta.line deltas

rises_from_before : (line later : ℕ) (deltas : List Delta) → line ≤ later → LinesRise later deltas → LinesRise line deltas
rises_from_before line later [] before rise = tt
rises_from_before line later (delta ∷ deltas) before rise = (omega (arith, rise.0), rise.1)

on_one_line : (line : ℕ) (parts : List (ℕ × List ℕ)) (rest : List TextSegment) → LinesRise line (map delta_of rest)
    → LinesRise line (map delta_of (map (segment_on line) parts ++ rest))
on_one_line line [] rest rise = rise
on_one_line line (part ∷ parts) rest rise = (omega arith, on_one_line line parts rest rise)

lines_rise : (line place : ℕ) (lines : List (List ℕ)) → LinesRise line (map delta_of (segments_of_lines line place lines))
unfolding segments_on
lines_rise line place [] = tt
lines_rise line place (bytes ∷ lines) =
    on_one_line line (filter is_nonempty (parts_from place (slice_split is_comma bytes))) (segments_of_lines (line + 1) (place + length bytes + 1) lines)
    (rises_from_before line (line + 1) _ (omega arith) (lines_rise (line + 1) (place + length bytes + 1) lines))

pub deltas_rise : (text : List ℕ) → LinesRise 0 (deltas_of text)
unfolding deltas_of segments_of segments_from
deltas_rise text = lines_rise 0 0 (slice_split is_semicolon text)

-- the last segment so far stands on its own line
pub any_last : (before : List Delta) (delta : Delta) (line : ℕ) → delta.line ≡ line
    → list_any (λ (earlier : Delta). eqb earlier.line line) (before ++ delta ∷ []) ≡ true
any_last [] delta line is = or_left _ _ (eq-eqb _ _ is)
any_last (m ∷ before) delta line is = or_right _ _ (any_last before delta line is)

columns_rise : (x y d : ℤ) (m n : ℕ) → x ≡ pos m → y ≡ pos n → y ≡ x +ℤ d → int_lt d (pos 0) ≡ false → m ≤ n
columns_rise x y (pos k) m n x_is y_is sum onward = omega (arith, ints)
columns_rise x y (negsuc k) m n x_is y_is sum onward = absurd (cc)

module _ (sources names : ℕ) where
  next_in_order : (before : List Delta) (a b : Delta) → a.line ≤ b.line → is_accepted_after sources names before a ≡ true
      → is_accepted_after sources names (before ++ a ∷ []) b ≡ true → IsAtOrBefore (mapping_after before a) (mapping_after (before ++ a ∷ []) b)
  unfolding is_accepted_after mapping_after
  next_in_order before a b rises accepts_a accepts_b =
      ⊎_elim
      (λ (same : a.line ≡ b.line).
      let front = before ++ a ∷ [] in
      let range_a = (each_in_range (values_on a.line front) (and_parts _ _ (and_parts _ _ (and_parts _ _ (and_parts _ _ accepts_a).0).0).0).1).column in
      let range_b = (each_in_range (values_on b.line (front ++ b ∷ []))
      (and_parts _ _ (and_parts _ _ (and_parts _ _ (and_parts _ _ accepts_b).0).0).0).1).column in
      let column_a = in_range_natural (values_on a.line front).column range_a in
      let column_b = in_range_natural (values_on b.line (front ++ b ∷ [])).column range_b in
      let pushed = ap (λ (v : RunningValues). v.column) (values-push front b) in
      let from_a : (values_on b.line front).column ≡ (values_on a.line front).column = ap (λ line. (values_on line front).column) (sym same) in
      let onward : int_lt (difference 0 b) (pos 0) ≡ false = ⊎_elim
      (λ none. absurd (both_ways _ (not-true _ none) (any_last before a b.line same)))
      (λ rising. not-true _ rising)
      (or_cases _ _ (and_parts _ _ accepts_b).1) in
      inr (
        same,
        columns_rise (values_on a.line front).column (values_on b.line (front ++ b ∷ [])).column (difference 0 b)
            (natural (values_on a.line front).column) (natural (values_on b.line (front ++ b ∷ [])).column)
            column_a.0 column_b.0 (pushed ∙ ap (λ z. z +ℤ difference 0 b) from_a) onward,
      ))
      (λ other. ⊎_elim (λ before. inl before) (λ after. absurd (omega arith)) other)
      (cases_order a.line b.line)

  in_order : (before deltas : List Delta) (line : ℕ) → LinesRise line deltas → are_accepted_after sources names before deltas ≡ true
      → IsInOrder (mappings_after before deltas)
  in_order before [] line rise all = tt
  in_order before (a ∷ []) line rise all = tt
  in_order before (a ∷ b ∷ deltas) line rise all =
      let parts = and_parts _ _ all in
      (next_in_order before a b rise.1.0 parts.0 (and_parts _ _ parts.1).0, in_order (before ++ a ∷ []) (b ∷ deltas) a.line rise.1 parts.1)

pub mappings_in_order : (text : List ℕ) (sources names : ℕ) → IsAccepted text sources names → IsInOrder (mappings_of text)
unfolding is_accepted mappings_of
mappings_in_order text sources names accepted = in_order sources names [] (deltas_of text) 0 (deltas_rise text) accepted

-- ---- the next mapping after a state

rises_at : (line : ℕ) (before deltas : List Delta) (j : ℕ) (m : Mapping) → LinesRise line (drop j deltas)
    → slice_get (mappings_after before deltas) j ≡ Some m → line ≤ m.line
unfolding mapping_after
rises_at line before [] j m rise there = absurd (cc)
rises_at line before (delta ∷ deltas) zero m rise there = let same : delta.line ≡ m.line = ap (λ (m : Mapping). m.line) (some_same (mapping_after before delta) m there)
    in omega (arith, rise.0)
rises_at line before (delta ∷ deltas) (suc j) m rise there = rises_at line (before ++ delta ∷ []) deltas j m rise there

rises_from : (line place : ℕ) (text : List ℕ) → LinesRise line (map delta_of (segments_from line place text))
unfolding segments_from
rises_from line place text = lines_rise line place (slice_split is_semicolon text)

-- it stands on the state's line, or on one after it
pub not_above : (text : List ℕ) (j : ℕ) (cursor : Cursor) (m : Mapping) → IsAfter text j cursor → slice_get (mappings_of text) j ≡ Some m → cursor.line ≤ m.line
unfolding deltas_of mappings_of
not_above text j cursor m after there =
    let left = drop-map delta_of j (segments_of text) ∙ ap (map delta_of) (sym after.rest) in
    rises_at cursor.line [] (deltas_of text) j m (subst (LinesRise cursor.line) (sym left) (rises_from cursor.line cursor.place (drop cursor.place text))) there
