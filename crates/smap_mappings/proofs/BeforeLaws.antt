-- A list of mappings that is encoded, mapping after mapping: those before a mapping keep to the limit, the lines don't
-- fall, nor do the columns of a line, and so each field is small enough to be spelled.
use Rattle.std.proofs.Common.{◌≡◌, ℕ, ◌+◌, ◌<◌, ◌≤◌, Bool, true, false, cond, eqb, ltb, List, [], ◌∷◌, ◌++◌, Option, Some, None, refl, sym, ap, subst}
use Rattle.std.proofs.Common.{◌∙◌, arith, ltb-false, eq-eqb, ne_eqb, ⊎_elim}
use Rattle.std.specs.Prelude.{ℤ, pos, negsuc, ◌-ℤ◌, unsigned_abs, unwrap_or, filter_map}
use Rattle.std.specs.List.{AllByRecursion, last_or, cons_option}
use Rattle.std.specs.Option.{option_or}
use Rattle.std.proofs.lemmas.Bool.{cond-true, cond-false, cases_eq, or_parts, and_cases, both_ways}
use Rattle.std.proofs.lemmas.Int.{ints}
use Rattle.std.proofs.lemmas.List.{append-nil}
use Rattle.std.proofs.lemmas.List.Elements.{filter_map-append}
use Rattle.smap_mappings.specs.Limits.{limit}
use Rattle.smap_mappings.specs.Range.{is_name_past_limit, is_mapping_past_limit, stands_before}
use Rattle.smap_mappings.specs.Canonical.{column_before, no_origin, origin_before, name_of_mapping, name_before, fields_after}
use Rattle.smap_mappings.specs.Encode.{is_not_sorted, list_fault_from, list_fault}
use Rattle.smap_mappings.specs.declared.canonical.EncodeRefusal.{EncodeRefusal}
use Rattle.smap_mappings.specs.declared.mapping.Mapping.{Mapping}
use Rattle.smap_mappings.specs.declared.mapping.Origin.{Origin}
use Rattle.smap_mappings.specs.Laws.Lists.{last_or-push}

-- ---- mappings by their number of fields

abbrev pub unmapped : ℕ → ℕ → Mapping
unmapped line column = record { line = line; column = column; origin = None }

abbrev pub mapped : ℕ → ℕ → ℕ → ℕ → ℕ → Option ℕ → Mapping
mapped line column source original_line original_column name =
    record { line = line; column = column; origin = Some (record { source = source; line = original_line; column = original_column; name = name }) }

-- what holds of those with one field, with four and with five holds of each
pub by_fields : (P : Mapping → Type 0) → ((line column : ℕ) → P (unmapped line column))
    → ((line column source original_line original_column : ℕ) → P (mapped line column source original_line original_column None))
    → ((line column source original_line original_column name : ℕ) → P (mapped line column source original_line original_column (Some name)))
    → (mapping : Mapping) → P mapping
by_fields P one four five mapping = by_origin mapping.origin
  where
    by_name : (origin : Origin) (name : Option ℕ) → P (mapped mapping.line mapping.column origin.source origin.line origin.column name)
    by_name origin None = four mapping.line mapping.column origin.source origin.line origin.column
    by_name origin (Some name) = five mapping.line mapping.column origin.source origin.line origin.column name

    by_origin : (origin : Option Origin) → P (record { line = mapping.line; column = mapping.column; origin = origin })
    by_origin None = one mapping.line mapping.column
    by_origin (Some origin) = by_name origin origin.name

-- ---- the last ones of some mappings

module _ {A : Type 0} (f : Mapping → Option A) (before : List Mapping) (mapping : Mapping) where
  last_given : (a : A) → f mapping ≡ Some a → last_or None (filter_map f (before ++ mapping ∷ [])) ≡ Some a
  last_given a is =
      ap (last_or None) (filter_map-append f before (mapping ∷ []) ∙ ap (λ o. filter_map f before ++ cons_option o []) is)
      ∙ last_or-push None (filter_map f before) a

  last_kept : f mapping ≡ None → last_or None (filter_map f (before ++ mapping ∷ [])) ≡ last_or None (filter_map f before)
  last_kept is =
      ap (last_or None) (filter_map-append f before (mapping ∷ []) ∙ ap (λ o. filter_map f before ++ cons_option o []) is ∙ append-nil (filter_map f before))

pub origin_given : (before : List Mapping) (mapping : Mapping) (origin : Origin) → mapping.origin ≡ Some origin
    → origin_before (before ++ mapping ∷ []) ≡ origin
origin_given before mapping origin is = ap (λ o. unwrap_or o no_origin) (last_given (λ m. m.origin) before mapping origin is)

pub origin_kept : (before : List Mapping) (mapping : Mapping) → mapping.origin ≡ None → origin_before (before ++ mapping ∷ []) ≡ origin_before before
origin_kept before mapping is = ap (λ o. unwrap_or o no_origin) (last_kept (λ m. m.origin) before mapping is)

pub name_given : (before : List Mapping) (mapping : Mapping) (name : ℕ) → name_of_mapping mapping ≡ Some name → name_before (before ++ mapping ∷ []) ≡ name
name_given before mapping name is = ap (λ o. unwrap_or o 0) (last_given name_of_mapping before mapping name is)

pub name_kept : (before : List Mapping) (mapping : Mapping) → name_of_mapping mapping ≡ None → name_before (before ++ mapping ∷ []) ≡ name_before before
name_kept before mapping is = ap (λ o. unwrap_or o 0) (last_kept name_of_mapping before mapping is)

-- the column on a mapping's own line, and on a later one
pub column_given : (before : List Mapping) (mapping : Mapping) → column_before (last_or None (before ++ mapping ∷ [])) mapping.line ≡ mapping.column
column_given before mapping =
    ap (λ o. column_before o mapping.line) (last_or-push None before mapping) ∙ cond-true _ _ _ (eq-eqb mapping.line mapping.line refl)

pub column_later : (before : List Mapping) (mapping : Mapping) (line : ℕ) → mapping.line < line → column_before (last_or None (before ++ mapping ∷ [])) line ≡ 0
column_later before mapping line later =
    ap (λ o. column_before o line) (last_or-push None before mapping) ∙ cond-false _ _ _ (ne_eqb mapping.line line (λ e. absurd (omega arith)))

-- ---- lists that are encoded

-- none of these mappings, which stand after this one, has a fault
abbrev pub AreFaultless : Option Mapping → List Mapping → Type 0
AreFaultless earlier [] = Unit {0}
AreFaultless earlier (mapping ∷ mappings) =
    (is_not_sorted earlier mapping ≡ false) × (is_mapping_past_limit mapping ≡ false) × AreFaultless (Some mapping) mappings

no_refusal : (a b : Bool) (x y : EncodeRefusal) (others : Option EncodeRefusal)
    → ◌≡◌ {A = Option EncodeRefusal} (option_or (cond a (Some x) (cond b (Some y) None)) others) None → (a ≡ false) × (b ≡ false) × (others ≡ None)
no_refusal true b x y others is = absurd (cc)
no_refusal false true x y others is = absurd (cc)
no_refusal false false x y others is = (refl, refl, is)

faultless_from : (i : ℕ) (earlier : Option Mapping) (mappings : List Mapping) → list_fault_from i earlier mappings ≡ None → AreFaultless earlier mappings
faultless_from i earlier [] none = tt
faultless_from i earlier (mapping ∷ mappings) none =
    let parts = no_refusal (is_not_sorted earlier mapping) (is_mapping_past_limit mapping) _ _ (list_fault_from (i + 1) (Some mapping) mappings) none in
    (parts.0, parts.1, faultless_from (i + 1) (Some mapping) mappings parts.2)

pub faultless : (list : List Mapping) → list_fault list ≡ None → AreFaultless None list
unfolding list_fault
faultless list none = faultless_from 0 None list none

-- ---- the order

-- the line of the mapping before, and 0 where there is none
abbrev pub line_before : Option Mapping → ℕ
line_before None = 0
line_before (Some mapping) = mapping.line

pub lines_rise : (earlier : Option Mapping) (mapping : Mapping) → is_not_sorted earlier mapping ≡ false → line_before earlier ≤ mapping.line
lines_rise None mapping sorted = omega arith
lines_rise (Some earlier) mapping sorted = ltb-false mapping.line earlier.line (or_parts _ _ sorted).0

columns_on_line : (earlier mapping : Mapping) → stands_before mapping earlier ≡ false → mapping.line ≡ earlier.line → earlier.column ≤ mapping.column
columns_on_line earlier mapping sorted same =
    ltb-false mapping.column earlier.column (
    ⊎_elim (λ other. absurd (both_ways _ other (eq-eqb mapping.line earlier.line same))) (λ onward. onward)
    (and_cases (eqb mapping.line earlier.line) (ltb mapping.column earlier.column) (or_parts _ _ sorted).1))

pub columns_rise : (earlier : Option Mapping) (mapping : Mapping) → is_not_sorted earlier mapping ≡ false → column_before earlier mapping.line ≤ mapping.column
columns_rise None mapping sorted = omega arith
columns_rise (Some earlier) mapping sorted =
    ⊎_elim
    (λ (same : earlier.line ≡ mapping.line).
    omega (arith, cond-true (eqb earlier.line mapping.line) earlier.column 0 (eq-eqb _ _ same), columns_on_line earlier mapping sorted (sym same)))
    (λ (other : earlier.line ≡ mapping.line → ⊥). omega (arith, cond-false (eqb earlier.line mapping.line) earlier.column 0 (ne_eqb _ _ other)))
    (cases_eq earlier.line mapping.line)

-- ---- the limit

-- each number from which the next mapping may differ is at most the limit
pub record AreSmall (before : List Mapping) : Type 0 where
  pub column : (line : ℕ) → column_before (last_or None before) line ≤ limit
  pub source : (origin_before before).source ≤ limit
  pub original_line : (origin_before before).line ≤ limit
  pub original_column : (origin_before before).column ≤ limit
  pub name : name_before before ≤ limit

pub none_are_small : AreSmall []
none_are_small = record { column = λ line. omega arith; source = omega arith; original_line = omega arith; original_column = omega arith; name = omega arith }

-- an origin whose numbers are at most the limit
pub record IsSmallOrigin (origin : Origin) : Type 0 where
  pub source : origin.source ≤ limit
  pub line : origin.line ≤ limit
  pub column : origin.column ≤ limit
  pub name : is_name_past_limit origin.name ≡ false

pub small_column : (mapping : Mapping) → is_mapping_past_limit mapping ≡ false → mapping.column ≤ limit
small_column mapping small = ltb-false limit mapping.column (or_parts _ _ (or_parts _ _ small).0).1

pub small_origin : (line column : ℕ) (origin : Origin)
    → is_mapping_past_limit (record { line = line; column = column; origin = Some origin }) ≡ false → IsSmallOrigin origin
small_origin line column origin small =
    let parts = or_parts _ _ (or_parts _ _ small).1 in
    let place = or_parts _ _ parts.0 in
    let front = or_parts _ _ place.0 in
    record {
      source = ltb-false limit origin.source front.0;
      line = ltb-false limit origin.line front.1;
      column = ltb-false limit origin.column place.1;
      name = parts.1;
    }

module _ (before : List Mapping) (are : AreSmall before) where
  column_stays_small : (mapping : Mapping) → mapping.column ≤ limit → (line : ℕ) → column_before (last_or None (before ++ mapping ∷ [])) line ≤ limit
  column_stays_small mapping small line =
      ⊎_elim
      (λ (same : mapping.line ≡ line). omega (arith, ap (λ o. column_before o line) (last_or-push None before mapping) ∙ cond-true _ _ _ (eq-eqb _ _ same)))
      (λ (other : mapping.line ≡ line → ⊥). omega (arith, ap (λ o. column_before o line) (last_or-push None before mapping) ∙ cond-false _ _ _ (ne_eqb _ _ other)))
      (cases_eq mapping.line line)

  pub small-push : (mapping : Mapping) → is_mapping_past_limit mapping ≡ false → AreSmall (before ++ mapping ∷ [])
  small-push = by_fields (λ mapping. is_mapping_past_limit mapping ≡ false → AreSmall (before ++ mapping ∷ []))
      (λ line column small.
      let mapping = unmapped line column in
      let kept = origin_kept before mapping refl in
      record {
        column = column_stays_small mapping (small_column mapping small);
        source = subst (λ (o : Origin). o.source ≤ limit) (sym kept) are.source;
        original_line = subst (λ (o : Origin). o.line ≤ limit) (sym kept) are.original_line;
        original_column = subst (λ (o : Origin). o.column ≤ limit) (sym kept) are.original_column;
        name = subst (λ name. name ≤ limit) (sym (name_kept before mapping refl)) are.name;
      })
      (λ line column source original_line original_column small.
      let mapping = mapped line column source original_line original_column None in
      let given = origin_given before mapping _ refl in
      let numbers = small_origin line column (record { source = source; line = original_line; column = original_column; name = None }) small in
      record {
        column = column_stays_small mapping (small_column mapping small);
        source = subst (λ (o : Origin). o.source ≤ limit) (sym given) numbers.source;
        original_line = subst (λ (o : Origin). o.line ≤ limit) (sym given) numbers.line;
        original_column = subst (λ (o : Origin). o.column ≤ limit) (sym given) numbers.column;
        name = subst (λ name. name ≤ limit) (sym (name_kept before mapping refl)) are.name;
      })
      (λ line column source original_line original_column name small.
      let mapping = mapped line column source original_line original_column (Some name) in
      let given = origin_given before mapping _ refl in
      let numbers = small_origin line column (record { source = source; line = original_line; column = original_column; name = Some name }) small in
      record {
        column = column_stays_small mapping (small_column mapping small);
        source = subst (λ (o : Origin). o.source ≤ limit) (sym given) numbers.source;
        original_line = subst (λ (o : Origin). o.line ≤ limit) (sym given) numbers.line;
        original_column = subst (λ (o : Origin). o.column ≤ limit) (sym given) numbers.column;
        name = subst (λ name. name ≤ limit) (sym (name_given before mapping name refl)) (ltb-false limit name numbers.name);
      })

  -- the difference of two small numbers has a small magnitude
  abs_small : (z : ℤ) (a b : ℕ) → a ≤ limit → b ≤ limit → z ≡ pos a -ℤ pos b → unsigned_abs z ≤ limit
  abs_small (pos k) a b a_small b_small is = omega (arith, ints)
  abs_small (negsuc k) a b a_small b_small is = omega (arith, ints)

  difference_small : (a b : ℕ) → a ≤ limit → b ≤ limit → unsigned_abs (pos a -ℤ pos b) ≤ limit
  difference_small a b a_small b_small = abs_small (pos a -ℤ pos b) a b a_small b_small refl

  pub fields_small : (mapping : Mapping) → is_mapping_past_limit mapping ≡ false → AllByRecursion (λ n. unsigned_abs n ≤ limit) (fields_after before mapping)
  unfolding fields_after
  fields_small = by_fields (λ mapping. is_mapping_past_limit mapping ≡ false → AllByRecursion (λ n. unsigned_abs n ≤ limit) (fields_after before mapping))
      (λ line column small. (difference_small column _ (small_column (unmapped line column) small) (are.column line), tt))
      (λ line column source original_line original_column small.
      let numbers = small_origin line column (record { source = source; line = original_line; column = original_column; name = None }) small in (
        difference_small column _ (small_column (mapped line column source original_line original_column None) small) (are.column line),
        (
          difference_small source _ numbers.source are.source,
          (difference_small original_line _ numbers.line are.original_line, (difference_small original_column _ numbers.column are.original_column, tt)),
        ),
      ))
      (λ line column source original_line original_column name small.
      let numbers = small_origin line column (record { source = source; line = original_line; column = original_column; name = Some name }) small in (
        difference_small column _ (small_column (mapped line column source original_line original_column (Some name)) small) (are.column line),
        (
          difference_small source _ numbers.source are.source,
          (
            difference_small original_line _ numbers.line are.original_line,
            (
              difference_small original_column _ numbers.column are.original_column,
              (difference_small name _ (ltb-false limit name numbers.name) are.name, tt),
            ),
          ),
        ),
      ))
