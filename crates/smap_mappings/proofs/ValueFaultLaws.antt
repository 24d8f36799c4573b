-- What is wrong with the values that a segment leaves, and when nothing is.
use Rattle.std.proofs.Common.{◌≡◌, ℕ, Bool, true, false, not, ◌&&◌, ◌||◌, cond, eqb, le-ltb, lt-ltb, List, [], ◌∷◌, ◌++◌, Option, Some, None, refl}
use Rattle.std.proofs.Common.{sym, ap, ◌∙◌, arith, ⊎_elim}
use Rattle.std.specs.Prelude.{ℤ, pos, int_lt}
use Rattle.std.specs.List.{list_any}
use Rattle.std.proofs.lemmas.Bool.{cond-true, cond-false, and_from, and_parts, or_right, or_parts, or_from, not-true, not_from_false, cases_Bool, and_left}
use Rattle.std.proofs.lemmas.Int.{ints}
use Rattle.smap_mappings.specs.Limits.{most_indices}
use Rattle.smap_mappings.specs.Segment.{has_known_length, has_origin, has_name}
use Rattle.smap_mappings.specs.Mappings.{Delta, RunningValues, difference, natural, values_on}
use Rattle.smap_mappings.specs.Accepted.{is_in_range, are_in_range, is_accepted_after, is_below_zero, is_past_limit}
use Rattle.smap_mappings.specs.Faults.{has_value_below_zero, has_value_past_limit, values_fault, delta_fault}
use Rattle.smap_mappings.specs.Private.Reading.{fields_in, delta_in}
use Rattle.smap_mappings.specs.Private.Advance.{sums_fault}
use Rattle.smap_mappings.specs.declared.fault.FaultKind.{FaultKind}
use Rattle.smap_mappings.specs.declared.fault.FaultKind.TheVariants.{Negative, PastLimit, ColumnFalls, SourceIndex, NameIndex}
use Rattle.smap_mappings.specs.declared.segment.Segment.{Segment}
use Rattle.smap_mappings.proofs.DeltaLaws.{values-push, column_of_none}
use Rattle.smap_mappings.proofs.Ranges.{InRange, in_range_natural, each_in_range}

pub none_from_test : (b : Bool) (kind : FaultKind) (o : Option FaultKind) → ◌≡◌ {A = Option FaultKind} (cond b (Some kind) o) None → (b ≡ false) × (o ≡ None)
none_from_test true kind o is = absurd (cc)
none_from_test false kind o is = (refl, is)

-- ---- in range, or below or past it

-- values of which none is below 0 and none past the limit are in range, and the other way round
pub in_range_from : (values : RunningValues) → has_value_below_zero values ≡ false → has_value_past_limit values ≡ false → InRange values
in_range_from values below past =
    let b1 = or_parts _ _ below in
    let b2 = or_parts _ _ b1.0 in
    let b3 = or_parts _ _ b2.0 in
    let b4 = or_parts _ _ b3.0 in
    let p1 = or_parts _ _ past in
    let p2 = or_parts _ _ p1.0 in
    let p3 = or_parts _ _ p2.0 in
    let p4 = or_parts _ _ p3.0 in
    record {
      column = and_from _ _ (not_from_false _ b4.0) (not_from_false _ p4.0);
      source = and_from _ _ (not_from_false _ b4.1) (not_from_false _ p4.1);
      original_line = and_from _ _ (not_from_false _ b3.1) (not_from_false _ p3.1);
      original_column = and_from _ _ (not_from_false _ b2.1) (not_from_false _ p2.1);
      name = and_from _ _ (not_from_false _ b1.1) (not_from_false _ p1.1);
    }

all_from_each : (values : RunningValues) → InRange values → are_in_range values ≡ true
all_from_each values each = and_from _ _ (and_from _ _ (and_from _ _ (and_from _ _ each.column each.source) each.original_line) each.original_column) each.name

-- from column 0 on, values in range stay so
pub column_zero : (values : RunningValues) → are_in_range values ≡ true → are_in_range (record values { column = pos 0 }) ≡ true
column_zero values range =
    let each = each_in_range values range in
    all_from_each (record values { column = pos 0 })
    (record { column = refl; source = each.source; original_line = each.original_line; original_column = each.original_column; name = each.name })

not_below : (z : ℤ) → is_in_range z ≡ true → is_below_zero z ≡ false
not_below z is = not-true _ (and_parts _ _ is).0

not_past : (z : ℤ) → is_in_range z ≡ true → is_past_limit z ≡ false
not_past z is = not-true _ (and_parts _ _ is).1

pub none_below : (values : RunningValues) → InRange values → has_value_below_zero values ≡ false
none_below values each =
    or_from _ _ (or_from _ _ (or_from _ _ (or_from _ _ (not_below values.column each.column) (not_below values.source each.source))
    (not_below values.original_line each.original_line)) (not_below values.original_column each.original_column)) (not_below values.name each.name)

pub none_past : (values : RunningValues) → InRange values → has_value_past_limit values ≡ false
none_past values each =
    or_from _ _ (or_from _ _ (or_from _ _ (or_from _ _ (not_past values.column each.column) (not_past values.source each.source))
    (not_past values.original_line each.original_line)) (not_past values.original_column each.original_column)) (not_past values.name each.name)

-- ---- the parts of no fault

pub record NoFault (sources names : ℕ) (falls : Bool) (fields : List ℤ) (values : RunningValues) : Type 0 where
  pub below : has_value_below_zero values ≡ false
  pub past : has_value_past_limit values ≡ false
  pub rises : falls ≡ false
  pub source : (has_origin fields && not (int_lt values.source (pos sources))) ≡ false
  pub name : (has_name fields && not (int_lt values.name (pos names))) ≡ false

pub no_fault_parts : (sources names : ℕ) (falls : Bool) (fields : List ℤ) (values : RunningValues)
    → values_fault sources names falls fields values ≡ None → NoFault sources names falls fields values
no_fault_parts sources names falls fields values none =
    let below = none_from_test _ Negative _ none in
    let past = none_from_test _ PastLimit _ below.1 in
    let rises = none_from_test _ ColumnFalls _ past.1 in
    let source = none_from_test _ SourceIndex _ rises.1 in
    let name = none_from_test _ NameIndex None source.1 in
    record { below = below.0; past = past.0; rises = rises.0; source = source.0; name = name.0 }

-- values that have no fault are in range
pub sums_in_range : (sources names : ℕ) (segment : Segment) (values : RunningValues) → sums_fault sources names segment values ≡ None
    → are_in_range values ≡ true
sums_in_range sources names segment values none =
    let parts = no_fault_parts sources names (is_below_zero segment.column) (fields_in segment) values none in
    all_from_each values (in_range_from values parts.below parts.past)

pub no_fault_from : (sources names : ℕ) (falls : Bool) (fields : List ℤ) (values : RunningValues)
    → NoFault sources names falls fields values → values_fault sources names falls fields values ≡ None
no_fault_from sources names falls fields values none =
    cond-false _ _ _ none.below ∙ cond-false _ _ _ none.past ∙ cond-false _ _ _ none.rises ∙ cond-false _ _ _ none.source ∙ cond-false _ _ _ none.name

-- ---- a segment is accepted where it has a known number of fields and its values have no fault

-- `not (p && not q)` as `not p || q`, and back
either : (p q : Bool) → (p && not q) ≡ false → (not p || q) ≡ true
either true true is = refl
either true false is = absurd (cc)
either false q is = refl

neither : (p q : Bool) → (not p || q) ≡ true → (p && not q) ≡ false
neither true true is = refl
neither true false is = absurd (cc)
neither false q is = refl

not_both : (p q : Bool) → (p && q) ≡ false → (not p || not q) ≡ true
not_both true true is = absurd (cc)
not_both true false is = refl
not_both false q is = refl

both_not : (p q : Bool) → (not p || not q) ≡ true → (p && q) ≡ false
both_not true true is = absurd (cc)
both_not true false is = refl
both_not false q is = refl

module _ (sources names : ℕ) (before : List Delta) (delta : Delta) where
  pub accepts_from : has_known_length delta.fields ≡ true → delta_fault sources names before delta ≡ None → is_accepted_after sources names before delta ≡ true
  unfolding is_accepted_after delta_fault
  accepts_from known none =
      let values = values_on delta.line (before ++ delta ∷ []) in
      let earlier = list_any (λ (e : Delta). eqb e.line delta.line) before in
      let parts = no_fault_parts sources names (earlier && is_below_zero (difference 0 delta)) delta.fields values none in
      and_from _ _ (and_from _ _ (and_from _ _ (and_from _ _ known (all_from_each values (in_range_from values parts.below parts.past)))
      (either (has_origin delta.fields) _ parts.source)) (either (has_name delta.fields) _ parts.name))
      (not_both earlier (is_below_zero (difference 0 delta)) parts.rises)

  pub accepts_known : is_accepted_after sources names before delta ≡ true → has_known_length delta.fields ≡ true
  unfolding is_accepted_after
  accepts_known is = (and_parts _ _ (and_parts _ _ (and_parts _ _ (and_parts _ _ is).0).0).0).0

  pub accepts_none : is_accepted_after sources names before delta ≡ true → delta_fault sources names before delta ≡ None
  unfolding is_accepted_after delta_fault
  accepts_none is =
      let values = values_on delta.line (before ++ delta ∷ []) in
      let earlier = list_any (λ (e : Delta). eqb e.line delta.line) before in
      let a = and_parts _ _ is in
      let b = and_parts _ _ a.0 in
      let c = and_parts _ _ b.0 in
      let each = each_in_range values (and_parts _ _ c.0).1 in
      no_fault_from sources names (earlier && is_below_zero (difference 0 delta)) delta.fields values (record {
        below = none_below values each;
        past = none_past values each;
        rises = both_not earlier (is_below_zero (difference 0 delta)) a.1;
        source = neither (has_origin delta.fields) _ c.1;
        name = neither (has_name delta.fields) _ b.1;
      })

below_most : (z : ℤ) → is_in_range z ≡ true → int_lt z (pos most_indices) ≡ true
below_most z ranged = let n = in_range_natural z ranged in ap (λ x. int_lt x (pos most_indices)) n.0 ∙ lt-ltb _ _ (omega (arith, n.1))

-- a value in range is below the greatest number of sources and names, so what is accepted for some is for those
pub accepted_widest : (sources names : ℕ) (before : List Delta) (delta : Delta) → is_accepted_after sources names before delta ≡ true
    → is_accepted_after most_indices most_indices before delta ≡ true
unfolding is_accepted_after
accepted_widest sources names before delta is =
    let values = values_on delta.line (before ++ delta ∷ []) in
    let a = and_parts _ _ is in
    let b = and_parts _ _ a.0 in
    let c = and_parts _ _ b.0 in
    let d = and_parts _ _ c.0 in
    let ranges = each_in_range values d.1 in
    and_from _ _ (and_from _ _ (and_from _ _ c.0 (or_right (not (has_origin delta.fields)) _ (below_most values.source ranges.source)))
    (or_right (not (has_name delta.fields)) _ (below_most values.name ranges.name))) a.1

-- ---- the fault that the code looks for

-- the first segment of a line starts from column 0, so its column is below 0 where its first field is
first_rises : (line : ℕ) (before : List Delta) (segment : Segment) → list_any (λ (earlier : Delta). eqb earlier.line line) before ≡ false
    → is_in_range (values_on line (before ++ delta_in line segment ∷ [])).column ≡ true → is_below_zero segment.column ≡ false
first_rises line before segment none ranged =
    let pushed = ap (λ (v : RunningValues). v.column) (values-push before (delta_in line segment)) in
    let from_zero = column_of_none line before none in
    let n = in_range_natural (values_on line (before ++ delta_in line segment ∷ [])).column ranged in
    let is : segment.column ≡ pos (natural (values_on line (before ++ delta_in line segment ∷ [])).column) = omega (arith, ints, pushed, from_zero, n.0) in
    ap (λ z. int_lt z (pos 0)) is ∙ le-ltb _ 0 (omega arith)

-- so it isn't asked whether an earlier segment stands on the line
pub delta_fault_is : (sources names line : ℕ) (before : List Delta) (segment : Segment)
    → delta_fault sources names before (delta_in line segment) ≡ sums_fault sources names segment (values_on line (before ++ delta_in line segment ∷ []))
unfolding delta_fault
delta_fault_is sources names line before segment =
    let values = values_on line (before ++ delta_in line segment ∷ []) in
    ⊎_elim
    (λ below. cond-true _ _ _ below ∙ sym (cond-true _ _ _ below))
    (λ not_below. ⊎_elim
    (λ past. cond-false _ _ _ not_below ∙ cond-true _ _ _ past ∙ sym (cond-false _ _ _ not_below ∙ cond-true _ _ _ past))
    (λ not_past. ap (λ falls. values_fault sources names falls (fields_in segment) values) (falls_same (in_range_from values not_below not_past).column))
    (cases_Bool (has_value_past_limit values)))
    (cases_Bool (has_value_below_zero values))
  where
    falls_same : is_in_range (values_on line (before ++ delta_in line segment ∷ [])).column ≡ true
        → (list_any (λ (earlier : Delta). eqb earlier.line line) before && is_below_zero segment.column) ≡ is_below_zero segment.column
    falls_same ranged = ⊎_elim
        (λ some. ap (λ b. b && is_below_zero segment.column) some)
        (λ none. and_left _ _ none ∙ sym (first_rises line before segment none ranged))
        (cases_Bool (list_any (λ (earlier : Delta). eqb earlier.line line) before))
