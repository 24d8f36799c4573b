-- A list of mappings without a fault comes back from its canonical text, which is accepted.
use Rattle.std.proofs.Common.{◌≡◌, ℕ, ◌<◌, ◌≤◌, true, false, not, ◌||◌, ltb, List, [], ◌∷◌, ◌++◌, Some, None, refl, sym, ap, subst, ◌∙◌, arith}
use Rattle.std.proofs.Common.{lt-ltb, le-ltb, ⊎_elim}
use Rattle.std.specs.Prelude.{ℤ, pos, negsuc, ◌+ℤ◌, ◌-ℤ◌, int_lt}
use Rattle.std.specs.List.{All, AllByRecursion, last_or}
use Rattle.std.proofs.lemmas.Bool.{cases_eq, and_from, or_right, not_from_false}
use Rattle.std.proofs.lemmas.Int.{ints}
use Rattle.std.proofs.lemmas.List.Elements.{recursion_from_All}
use Rattle.smap_mappings.specs.Limits.{limit}
use Rattle.smap_mappings.specs.Segment.{has_known_length, has_origin, has_name}
use Rattle.smap_mappings.specs.Mappings.{Delta, RunningValues, has_segment_on, difference, total, natural, values_on, origin_in, mapping_after}
use Rattle.smap_mappings.specs.Mappings.{mappings_after, mappings_of}
use Rattle.smap_mappings.specs.Accepted.{is_below_zero, is_in_range, are_in_range, is_allowed, is_accepted_after, are_accepted_after, is_accepted, IsAccepted}
use Rattle.smap_mappings.specs.Within.{IsWithin}
use Rattle.smap_mappings.specs.Private.Advance.{values_after}
use Rattle.smap_mappings.specs.Canonical.{column_before, origin_before, name_before, fields_after, canonical_text}
use Rattle.smap_mappings.specs.Encode.{is_not_sorted, list_fault}
use Rattle.smap_mappings.specs.Range.{is_mapping_past_limit}
use Rattle.smap_mappings.specs.declared.mapping.Mapping.{Mapping}
use Rattle.smap_mappings.specs.declared.mapping.Origin.{Origin}
use Rattle.smap_mappings.proofs.DeltaLaws.{values-push, none_on_line, below_line, all_push}
use Rattle.smap_mappings.proofs.BeforeLaws.{unmapped, mapped, by_fields, origin_given, origin_kept, name_given, name_kept, column_given}
use Rattle.smap_mappings.proofs.BeforeLaws.{column_later, AreFaultless, faultless, line_before, lines_rise, columns_rise, AreSmall, none_are_small}
use Rattle.smap_mappings.proofs.BeforeLaws.{small-push}
use Rattle.smap_mappings.proofs.CanonicalSegments.{delta_of_mapping, deltas_of_mappings, canonical_deltas}
use Rattle.smap_mappings.specs.Laws.Lists.{last_or-push}

-- ---- the running values

-- the values from which a mapping on this line differs
abbrev pub values_before : List Mapping → ℕ → RunningValues
values_before before line = record {
  column = pos (column_before (last_or None before) line);
  source = pos (origin_before before).source;
  original_line = pos (origin_before before).line;
  original_column = pos (origin_before before).column;
  name = pos (name_before before);
}

-- a difference leads from the value before to the value
back : (a b : ℕ) → pos b +ℤ (pos a -ℤ pos b) ≡ pos a
back a b = omega (arith, ints)

stays : (a : ℕ) → pos a +ℤ pos 0 ≡ pos a
stays a = omega (arith, ints)

abbrev source_of : Origin → ℤ
source_of origin = pos origin.source

abbrev line_of : Origin → ℤ
line_of origin = pos origin.line

abbrev column_of : Origin → ℤ
column_of origin = pos origin.column

-- the fields of a mapping lead from the values before it to its own
values-step : (before : List Mapping) (mapping : Mapping)
    → values_after (values_before before mapping.line) (delta_of_mapping before mapping) ≡ values_before (before ++ mapping ∷ []) mapping.line
unfolding fields_after
values-step before = by_fields (λ mapping. values_after (values_before before mapping.line) (delta_of_mapping before mapping)
    ≡ values_before (before ++ mapping ∷ []) mapping.line)
    (λ line column.
    let mapping = unmapped line column in
    let earlier = origin_before before in
    let kept = sym (origin_kept before mapping refl) in
    λ i. record {
      column = (back column (column_before (last_or None before) line) ∙ ap pos (sym (column_given before mapping))) i;
      source = (stays earlier.source ∙ ap source_of kept) i;
      original_line = (stays earlier.line ∙ ap line_of kept) i;
      original_column = (stays earlier.column ∙ ap column_of kept) i;
      name = (stays (name_before before) ∙ ap pos (sym (name_kept before mapping refl))) i;
    })
    (λ line column source original_line original_column.
    let mapping = mapped line column source original_line original_column None in
    let earlier = origin_before before in
    let given = sym (origin_given before mapping _ refl) in
    λ i. record {
      column = (back column (column_before (last_or None before) line) ∙ ap pos (sym (column_given before mapping))) i;
      source = (back source earlier.source ∙ ap source_of given) i;
      original_line = (back original_line earlier.line ∙ ap line_of given) i;
      original_column = (back original_column earlier.column ∙ ap column_of given) i;
      name = (stays (name_before before) ∙ ap pos (sym (name_kept before mapping refl))) i;
    })
    (λ line column source original_line original_column name.
    let mapping = mapped line column source original_line original_column (Some name) in
    let earlier = origin_before before in
    let given = sym (origin_given before mapping _ refl) in
    λ i. record {
      column = (back column (column_before (last_or None before) line) ∙ ap pos (sym (column_given before mapping))) i;
      source = (back source earlier.source ∙ ap source_of given) i;
      original_line = (back original_line earlier.line ∙ ap line_of given) i;
      original_column = (back original_column earlier.column ∙ ap column_of given) i;
      name = (back name (name_before before) ∙ ap pos (sym (name_given before mapping name refl))) i;
    })

-- the segments so far are on lines up to the last mapping's, and the values after them are those of the mappings
pub record AreAfter (before : List Mapping) (deltas : List Delta) : Type 0 where
  pub lines : AllByRecursion (λ (delta : Delta). delta.line ≤ line_before (last_or None before)) deltas
  pub values : (line : ℕ) → line_before (last_or None before) ≤ line → values_on line deltas ≡ values_before before line

pub none_are_after : AreAfter [] []
unfolding values_on
none_are_after = record { lines = tt; values = λ line later. refl }

up_to : (line most : ℕ) (deltas : List Delta) → AllByRecursion (λ (m : Delta). m.line ≤ line) deltas → line ≤ most
    → AllByRecursion (λ (m : Delta). m.line ≤ most) deltas
up_to line most [] all rises = tt
up_to line most (m ∷ deltas) all rises = (omega (arith, all.0), up_to line most deltas all.1 rises)

module _ (before : List Mapping) (deltas : List Delta) (mapping : Mapping) (are : AreAfter before deltas)
    (rises : line_before (last_or None before) ≤ mapping.line) where
  -- the values after its segment
  values_here : values_on mapping.line (deltas ++ delta_of_mapping before mapping ∷ []) ≡ values_before (before ++ mapping ∷ []) mapping.line
  values_here =
      values-push deltas (delta_of_mapping before mapping)
      ∙ ap (λ values. values_after values (delta_of_mapping before mapping)) (are.values mapping.line rises)
      ∙ values-step before mapping

  lines_here : AllByRecursion (λ (delta : Delta). delta.line ≤ mapping.line) (deltas ++ delta_of_mapping before mapping ∷ [])
  lines_here = all_push (λ (delta : Delta). delta.line ≤ mapping.line) deltas (delta_of_mapping before mapping)
      (up_to (line_before (last_or None before)) mapping.line deltas are.lines rises) (omega arith)

  values_later : (line : ℕ) → mapping.line < line
      → values_on line (deltas ++ delta_of_mapping before mapping ∷ []) ≡ values_before (before ++ mapping ∷ []) line
  unfolding values_on
  values_later line later =
      let all = deltas ++ delta_of_mapping before mapping ∷ [] in
      let none = none_on_line line all (below_line mapping.line line all later lines_here) in
      let here = values_here in
      λ i. record {
        column = (ap (total 0) none ∙ ap pos (sym (column_later before mapping line later))) i;
        source = (here i).source;
        original_line = (here i).original_line;
        original_column = (here i).original_column;
        name = (here i).name;
      }

  pub after-push : AreAfter (before ++ mapping ∷ []) (deltas ++ delta_of_mapping before mapping ∷ [])
  after-push =
      let now = before ++ mapping ∷ [] in
      let all = deltas ++ delta_of_mapping before mapping ∷ [] in
      let line_is : mapping.line ≡ line_before (last_or None now) = ap line_before (sym (last_or-push None before mapping)) in
      record {
        lines = subst (λ line. AllByRecursion (λ (delta : Delta). delta.line ≤ line) all) line_is lines_here;
        values = λ line later. ⊎_elim
            (λ (same : mapping.line ≡ line). subst (λ l. values_on l all ≡ values_before now l) same values_here)
            (λ (other : mapping.line ≡ line → ⊥). values_later line (omega arith))
            (cases_eq mapping.line line);
      }

-- ---- the mapping of a segment

-- a mapping has the values after its segment
has_values : (before : List Mapping) (mapping : Mapping)
    → ◌≡◌ {A = Mapping} (record {
      line = mapping.line;
      column = natural (values_before (before ++ mapping ∷ []) mapping.line).column;
      origin = origin_in (fields_after before mapping) (values_before (before ++ mapping ∷ []) mapping.line);
    }) mapping
unfolding fields_after
has_values before = by_fields (λ mapping. ◌≡◌ {A = Mapping} (record {
  line = mapping.line;
  column = natural (values_before (before ++ mapping ∷ []) mapping.line).column;
  origin = origin_in (fields_after before mapping) (values_before (before ++ mapping ∷ []) mapping.line);
}) mapping)
    (λ line column. λ i. unmapped line (column_given before (unmapped line column) i))
    (λ line column source original_line original_column.
    let mapping = mapped line column source original_line original_column None in
    let given = origin_given before mapping _ refl in
    λ i. mapped line (column_given before mapping i) (given i).source (given i).line (given i).column None)
    (λ line column source original_line original_column name.
    let mapping = mapped line column source original_line original_column (Some name) in
    let given = origin_given before mapping _ refl in
    λ i. mapped line (column_given before mapping i) (given i).source (given i).line (given i).column (Some (name_given before mapping name refl i)))

-- its segment gives it back
gives_mapping : (before : List Mapping) (deltas : List Delta) (mapping : Mapping) → AreAfter before deltas
    → line_before (last_or None before) ≤ mapping.line → mapping_after deltas (delta_of_mapping before mapping) ≡ mapping
unfolding mapping_after
gives_mapping before deltas mapping are rises =
    ap (λ (values : RunningValues). record {
      line = mapping.line;
      column = natural values.column;
      origin = origin_in (fields_after before mapping) values;
    }) (values_here before deltas mapping are rises)
    ∙ has_values before mapping

decodes : (before mappings : List Mapping) (deltas : List Delta) → AreFaultless (last_or None before) mappings → AreAfter before deltas
    → mappings_after deltas (deltas_of_mappings before mappings) ≡ mappings
decodes before [] deltas good are = refl
decodes before (mapping ∷ mappings) deltas good are =
    let now = before ++ mapping ∷ [] in
    let delta = delta_of_mapping before mapping in
    let rises = lines_rise (last_or None before) mapping good.0 in
    let good_after = subst (λ o. AreFaultless o mappings) (sym (last_or-push None before mapping)) good.2 in
    ap (λ first. first ∷ mappings_after (deltas ++ delta ∷ []) (deltas_of_mappings now mappings)) (gives_mapping before deltas mapping are rises)
    ∙ ap (λ others. mapping ∷ others) (decodes now mappings (deltas ++ delta ∷ []) good_after (after-push before deltas mapping are rises))

pub canonical_decodes : (list : List Mapping) → list_fault list ≡ None → mappings_of (canonical_text list) ≡ list
unfolding mappings_of
canonical_decodes list none = ap (mappings_after []) (canonical_deltas list none) ∙ decodes [] list [] (faultless list none) none_are_after

-- ---- its segment may stand there

known_length : (before : List Mapping) (mapping : Mapping) → has_known_length (fields_after before mapping) ≡ true
unfolding fields_after
known_length before = by_fields (λ mapping. has_known_length (fields_after before mapping) ≡ true)
    (λ line column. refl)
    (λ line column source original_line original_column. refl)
    (λ line column source original_line original_column name. refl)

small_in_range : (n : ℕ) → n ≤ limit → is_in_range (pos n) ≡ true
small_in_range n small = and_from _ _ (not_from_false _ (le-ltb n 0 (omega arith))) (not_from_false _ (le-ltb limit n small))

all_in_range : (before : List Mapping) (line : ℕ) → AreSmall before → are_in_range (values_before before line) ≡ true
all_in_range before line small =
    and_from _ _ (and_from _ _ (and_from _ _ (and_from _ _ (small_in_range _ (small.column line)) (small_in_range _ small.source))
    (small_in_range _ small.original_line)) (small_in_range _ small.original_column)) (small_in_range _ small.name)

not_negative : (z : ℤ) (a b : ℕ) → b ≤ a → z ≡ pos a -ℤ pos b → is_below_zero z ≡ false
not_negative (pos k) a b rises is = le-ltb k 0 (omega arith)
not_negative (negsuc k) a b rises is = absurd (omega (arith, ints))

-- its column doesn't fall
onward : (before : List Mapping) (mapping : Mapping) → is_not_sorted (last_or None before) mapping ≡ false
    → is_below_zero (difference 0 (delta_of_mapping before mapping)) ≡ false
unfolding fields_after
onward before mapping sorted =
    not_negative (pos mapping.column -ℤ pos (column_before (last_or None before) mapping.line)) mapping.column
    (column_before (last_or None before) mapping.line) (columns_rise (last_or None before) mapping sorted) refl

module _ (sources names : ℕ) where
  -- its source and its name are among those that there are
  is_listed : (before : List Mapping) (mapping : Mapping) → IsWithin sources names mapping
      → (not (has_origin (fields_after before mapping)) || int_lt (values_before (before ++ mapping ∷ []) mapping.line).source (pos sources)) ≡ true
  unfolding fields_after
  is_listed before = by_fields (λ mapping. IsWithin sources names mapping
      → (not (has_origin (fields_after before mapping)) || int_lt (values_before (before ++ mapping ∷ []) mapping.line).source (pos sources)) ≡ true)
      (λ line column within. refl)
      (λ line column source original_line original_column within.
      subst (λ (o : Origin). ltb o.source sources ≡ true)
      (sym (origin_given before (mapped line column source original_line original_column None) _ refl)) (lt-ltb source sources within.origin.source.named))
      (λ line column source original_line original_column name within.
      subst (λ (o : Origin). ltb o.source sources ≡ true)
      (sym (origin_given before (mapped line column source original_line original_column (Some name)) _ refl))
      (lt-ltb source sources within.origin.source.named))

  is_named : (before : List Mapping) (mapping : Mapping) → IsWithin sources names mapping
      → (not (has_name (fields_after before mapping)) || int_lt (values_before (before ++ mapping ∷ []) mapping.line).name (pos names)) ≡ true
  unfolding fields_after
  is_named before = by_fields (λ mapping. IsWithin sources names mapping
      → (not (has_name (fields_after before mapping)) || int_lt (values_before (before ++ mapping ∷ []) mapping.line).name (pos names)) ≡ true)
      (λ line column within. refl)
      (λ line column source original_line original_column within. refl)
      (λ line column source original_line original_column name within.
      subst (λ n. ltb n names ≡ true) (sym (name_given before (mapped line column source original_line original_column (Some name)) name
      refl)) (lt-ltb name names within.origin.name.named))

  accepts_mapping : (before : List Mapping) (deltas : List Delta) (mapping : Mapping) → AreAfter before deltas → AreSmall before
      → is_not_sorted (last_or None before) mapping ≡ false → is_mapping_past_limit mapping ≡ false → IsWithin sources names mapping
      → is_accepted_after sources names deltas (delta_of_mapping before mapping) ≡ true
  unfolding is_accepted_after
  accepts_mapping before deltas mapping are small sorted in_limit within =
      let now = before ++ mapping ∷ [] in
      let delta = delta_of_mapping before mapping in
      ap (is_allowed sources names (has_segment_on mapping.line deltas) delta)
      (values_here before deltas mapping are (lines_rise (last_or None before) mapping sorted))
      ∙ and_from _ _
      (and_from _ _
      (and_from _ _ (and_from _ _ (known_length before mapping) (all_in_range now mapping.line (small-push before small mapping in_limit)))
      (is_listed before mapping within))
      (is_named before mapping within))
      (or_right _ _ (not_from_false _ (onward before mapping sorted)))

  accepts : (before mappings : List Mapping) (deltas : List Delta) → AreFaultless (last_or None before) mappings → AreAfter before deltas
      → AreSmall before → AllByRecursion (IsWithin sources names) mappings
      → are_accepted_after sources names deltas (deltas_of_mappings before mappings) ≡ true
  accepts before [] deltas good are small within = refl
  accepts before (mapping ∷ mappings) deltas good are small within =
      let now = before ++ mapping ∷ [] in
      let delta = delta_of_mapping before mapping in
      let good_after = subst (λ o. AreFaultless o mappings) (sym (last_or-push None before mapping)) good.2 in
      and_from _ _ (accepts_mapping before deltas mapping are small good.0 good.1 within.0)
      (accepts now mappings (deltas ++ delta ∷ []) good_after
      (after-push before deltas mapping are (lines_rise (last_or None before) mapping good.0)) (small-push before small mapping good.1) within.1)

pub canonical_is_accepted : (list : List Mapping) → list_fault list ≡ None → (sources names : ℕ) → All (IsWithin sources names) list
    → IsAccepted (canonical_text list) sources names
unfolding is_accepted
canonical_is_accepted list none sources names within =
    ap (are_accepted_after sources names []) (canonical_deltas list none)
    ∙ accepts sources names [] list [] (faultless list none) none_are_after none_are_small (recursion_from_All (IsWithin sources names) list within)
