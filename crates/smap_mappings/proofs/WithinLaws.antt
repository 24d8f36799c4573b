-- The mappings of an accepted text keep to the limit, and to the sources and names that there are.
use Rattle.std.proofs.Common.{◌≡◌, ℕ, ◌+◌, ◌<◌, ◌≤◌, Bool, true, not, ◌||◌, List, [], ◌∷◌, ◌++◌, length, map, filter, Option, Some, None, arith, ⊎_elim}
use Rattle.std.specs.Prelude.{ℤ, pos, negsuc, int_lt, IfSome}
use Rattle.std.specs.List.{All, AllByRecursion, slice_split}
use Rattle.std.proofs.lemmas.Bool.{and_parts, both_ways, cond_both, ltb-true, not-true, or_cases}
use Rattle.std.proofs.lemmas.List.Elements.{All-from_recursion}
use Rattle.std.proofs.lemmas.List.Splits.{length-slice_split}
use Rattle.std.proofs.lemmas.List.Sums.{count_by-le-length}
use Rattle.smap_mappings.specs.Limits.{limit}
use Rattle.smap_mappings.specs.Segment.{has_origin, has_name}
use Rattle.smap_mappings.specs.Segments.{TextSegment, is_nonempty, is_comma, is_semicolon, parts_from, segment_on, segments_on, segments_of_lines}
use Rattle.smap_mappings.specs.Segments.{segments_from, segments_of}
use Rattle.smap_mappings.specs.Mappings.{Delta, RunningValues, delta_of, deltas_of, natural, values_on, name_in, origin_in, mapping_after}
use Rattle.smap_mappings.specs.Mappings.{mappings_after, mappings_of}
use Rattle.smap_mappings.specs.Accepted.{is_in_range, is_accepted_after, are_accepted_after, is_accepted, IsAccepted}
use Rattle.smap_mappings.specs.Within.{IsIndexWithin, IsOriginWithin, IsWithin}
use Rattle.smap_mappings.specs.declared.mapping.Origin.{Origin}
use Rattle.smap_mappings.proofs.Ranges.{in_range_natural, InRange, each_in_range}

-- ---- the lines

on_one_line : (line most : ℕ) (parts : List (ℕ × List ℕ)) (rest : List TextSegment) → line ≤ most
    → AllByRecursion (λ (m : Delta). m.line ≤ most) (map delta_of rest)
    → AllByRecursion (λ (m : Delta). m.line ≤ most) (map delta_of (map (segment_on line) parts ++ rest))
on_one_line line most [] rest few all = all
on_one_line line most (part ∷ parts) rest few all = (few, on_one_line line most parts rest few all)

on_lines : (line place most : ℕ) (lines : List (List ℕ)) → line + length lines ≤ most
    → AllByRecursion (λ (m : Delta). m.line ≤ most) (map delta_of (segments_of_lines line place lines))
unfolding segments_on
on_lines line place most [] few = tt
on_lines line place most (bytes ∷ lines) few =
    on_one_line line most (filter is_nonempty (parts_from place (slice_split is_comma bytes)))
    (segments_of_lines (line + 1) (place + length bytes + 1) lines) (omega arith)
    (on_lines (line + 1) (place + length bytes + 1) most lines (omega arith))

-- a text has one line more than it has separators of lines
few_lines : (text : List ℕ) (most : ℕ) → length text < most → AllByRecursion (λ (m : Delta). m.line ≤ most) (deltas_of text)
unfolding deltas_of segments_of segments_from
few_lines text most short = on_lines 0 0 most (slice_split is_semicolon text)
    (omega (arith, length-slice_split is_semicolon text, count_by-le-length is_semicolon text))

-- ---- the values

index_within : (many : ℕ) (asked : Bool) (z : ℤ) → is_in_range z ≡ true → asked ≡ true → (not asked || int_lt z (pos many)) ≡ true
    → IsIndexWithin many (natural z)
index_within many asked (pos n) range is named = record {
  named = ⊎_elim (λ none. absurd (both_ways _ (not-true _ none) is)) (λ below. ltb-true n many below) (or_cases _ _ named);
  small = (in_range_natural (pos n) range).1;
}
index_within many asked (negsuc n) range is named = absurd (cc)

module _ (sources names : ℕ) where
  name_within : (fields : List ℤ) (values : RunningValues) → InRange values
      → (not (has_name fields) || int_lt values.name (pos names)) ≡ true → IfSome (name_in fields values) (IsIndexWithin names)
  name_within fields values range named =
      cond_both (has_name fields) (Some (natural values.name)) None (λ (name : Option ℕ). IfSome name (IsIndexWithin names))
      (λ is. index_within names (has_name fields) values.name range.name is named)
      (λ is. tt)

  origin_within : (fields : List ℤ) (values : RunningValues) → InRange values
      → (not (has_origin fields) || int_lt values.source (pos sources)) ≡ true → (not (has_name fields) || int_lt values.name (pos names)) ≡ true
      → IfSome (origin_in fields values) (IsOriginWithin sources names)
  origin_within fields values range listed named =
      cond_both (has_origin fields)
      (Some (record {
        source = natural values.source;
        line = natural values.original_line;
        column = natural values.original_column;
        name = name_in fields values;
      }))
      None
      (λ (origin : Option Origin). IfSome origin (IsOriginWithin sources names))
      (λ is. record {
        source = index_within sources (has_origin fields) values.source range.source is listed;
        line = (in_range_natural values.original_line range.original_line).1;
        column = (in_range_natural values.original_column range.original_column).1;
        name = name_within fields values range named;
      })
      (λ is. tt)

  within_here : (before : List Delta) (delta : Delta) → delta.line ≤ limit → is_accepted_after sources names before delta ≡ true
      → IsWithin sources names (mapping_after before delta)
  unfolding is_accepted_after mapping_after
  within_here before delta few accepted =
      let values = values_on delta.line (before ++ delta ∷ []) in
      let with_name = and_parts _ _ (and_parts _ _ accepted).0 in
      let with_source = and_parts _ _ with_name.0 in
      let range = each_in_range values (and_parts _ _ with_source.0).1 in
      record {
        line = few;
        column = (in_range_natural values.column range.column).1;
        origin = origin_within delta.fields values range with_source.1 with_name.1;
      }

  all_within : (before deltas : List Delta) → AllByRecursion (λ (m : Delta). m.line ≤ limit) deltas
      → are_accepted_after sources names before deltas ≡ true → AllByRecursion (IsWithin sources names) (mappings_after before deltas)
  all_within before [] few accepted = tt
  all_within before (delta ∷ deltas) few accepted =
      let parts = and_parts _ _ accepted in (within_here before delta few.0 parts.0, all_within (before ++ delta ∷ []) deltas few.1 parts.1)

pub mappings_within : (text : List ℕ) (sources names : ℕ) → length text < limit → IsAccepted text sources names
    → All (IsWithin sources names) (mappings_of text)
unfolding is_accepted mappings_of
mappings_within text sources names short accepted =
    All-from_recursion (IsWithin sources names) (mappings_of text) (all_within sources names [] (deltas_of text) (few_lines text limit short) accepted)
