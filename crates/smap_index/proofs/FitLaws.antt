-- The running values of a part's text fit a checkpoint where no mapping of the part is past the limit: each is that of
-- the last mapping that has it, or 0.
use Rattle.std.proofs.Common.{◌≡◌, ℕ, ◌+◌, ◌<◌, ◌≤◌, ◌^◌, suc, zero, Bool, true, false, cond, eqb, List, [], ◌∷◌, ◌++◌, length, take, map, Option}
use Rattle.std.proofs.Common.{Some, None, refl, ap, sym, subst, ◌∙◌, arith, append-nil, append_assoc, unwrap_or, ⊎_elim}
use Rattle.std.specs.Prelude.{ℤ, pos, ◌+ℤ◌, option_map}
use Rattle.std.specs.List.{list_any, slice_get}
use Rattle.std.proofs.lemmas.Bool.{or_parts, cases_Bool, cond-true, cond-false, ltb-false, eqb-true, or_cases, both_ways}
use Rattle.smap_mappings.specs.Limits.{limit, most_text_bytes}
use Rattle.smap_mappings.specs.Segment.{has_origin, has_name}
use Rattle.smap_mappings.specs.Mappings.{Delta, deltas_of, difference, total, values_on, natural, mapping_after, mappings_after, mappings_of}
use Rattle.smap_mappings.specs.Range.{is_number_past_limit, is_name_past_limit, is_origin_past_limit, is_mapping_past_limit}
use Rattle.smap_mappings.specs.State.{IsAfter}
use Rattle.smap_mappings.specs.declared.cursor.Cursor.{Cursor}
use Rattle.smap_mappings.specs.declared.mapping.Origin.{Origin}
use Rattle.smap_index.specs.Parts.{placed_origin, placed_mapping, placed}
use Rattle.smap_index.specs.Private.Walk.{IsFitting}
use Rattle.smap_index.specs.declared.part.Part.{Part}

-- ---- values that a segment does not change

total_stays : (i : ℕ) (before : List Delta) (delta : Delta) → difference i delta ≡ pos 0 → total i (before ++ delta ∷ []) ≡ total i before
total_stays i [] delta none = ap (λ d. d +ℤ pos 0) none
total_stays i (m ∷ before) delta none = ap (λ t. difference i m +ℤ t) (total_stays i before delta none)

no_fifth : (fields : List ℤ) → has_origin fields ≡ true → has_name fields ≡ false → slice_get fields 4 ≡ None
no_fifth [] some none = refl
no_fifth (a ∷ []) some none = refl
no_fifth (a ∷ b ∷ []) some none = refl
no_fifth (a ∷ b ∷ c ∷ []) some none = refl
no_fifth (a ∷ b ∷ c ∷ d ∷ []) some none = refl
no_fifth (a ∷ b ∷ c ∷ d ∷ e ∷ fields) some none =
    let all : List ℤ = a ∷ b ∷ c ∷ d ∷ e ∷ fields in
    ⊎_elim
    (λ four. let n = eqb-true (length all) 4 four in absurd (omega (arith, n)))
    (λ five. absurd (both_ways _ none five))
    (or_cases (eqb (length all) 4) (eqb (length all) 5) some)

-- ---- values that it changes

below : (n : ℕ) → is_number_past_limit n ≡ false → n < 2 ^ 32
below n within = let most = ltb-false limit n within in omega arith

module _ (part : Part) where
  -- the source and the name after these segments fit, at their place
  abbrev Fit : List Delta → Type 0
  Fit deltas = (part.source_base + natural (total 1 deltas) < 2 ^ 32) × (part.name_base + natural (total 4 deltas) < 2 ^ 32)

  name_more : (before : List Delta) (delta : Delta) (named : Bool) → has_origin delta.fields ≡ true → has_name delta.fields ≡ named
      → is_name_past_limit (option_map (λ n. part.name_base + n) (cond named (Some (natural (total 4 (before ++ delta ∷ [])))) None)) ≡ false
      → part.name_base + natural (total 4 before) < 2 ^ 32 → part.name_base + natural (total 4 (before ++ delta ∷ [])) < 2 ^ 32
  name_more before delta true some named within fit = below (part.name_base + natural (total 4 (before ++ delta ∷ []))) within
  name_more before delta false some named within fit =
      let none : difference 4 delta ≡ pos 0 = cond-true (has_origin delta.fields) _ _ some ∙ ap (λ o. unwrap_or o (pos 0)) (no_fifth delta.fields some named) in
      subst (λ t. part.name_base + natural t < 2 ^ 32) (sym (total_stays 4 before delta none)) fit

  fit_more : (before : List Delta) (delta : Delta) → is_mapping_past_limit (placed_mapping part (mapping_after before delta)) ≡ false
      → Fit before → Fit (before ++ delta ∷ [])
  unfolding mapping_after values_on
  fit_more before delta within fit =
      let after = before ++ delta ∷ [] in
      let name : Option ℕ = cond (has_name delta.fields) (Some (natural (total 4 after))) None in
      let origin : Origin = record { source = natural (total 1 after); line = natural (total 2 after); column = natural (total 3 after); name = name } in
      let inside : is_origin_past_limit (option_map (placed_origin part) (cond (has_origin delta.fields) (Some origin) None)) ≡ false =
      (or_parts _ _ within).1 in
      ⊎_elim
      (λ some.
      let there : is_origin_past_limit (Some (placed_origin part origin)) ≡ false =
      ap (λ o. is_origin_past_limit (option_map (placed_origin part) o)) (sym (cond-true (has_origin delta.fields) (Some origin) None some)) ∙ inside in
      let numbers = or_parts _ _ there in (
        below (part.source_base + natural (total 1 after)) (or_parts _ _ (or_parts _ _ numbers.0).0).0,
        name_more before delta (has_name delta.fields) some refl numbers.1 fit.1,
      ))
      (λ none. (
        subst (λ t. part.source_base + natural t < 2 ^ 32) (sym (total_stays 1 before delta (cond-false (has_origin delta.fields) _ _ none))) fit.0,
        subst (λ t. part.name_base + natural t < 2 ^ 32) (sym (total_stays 4 before delta (cond-false (has_origin delta.fields) _ _ none))) fit.1,
      ))
      (cases_Bool (has_origin delta.fields))

  fit_all : (before deltas : List Delta) (j : ℕ)
      → list_any is_mapping_past_limit (take j (map (placed_mapping part) (mappings_after before deltas))) ≡ false → Fit before → Fit (before ++ take j deltas)
  fit_all before [] zero within fit = subst Fit (sym (append-nil before)) fit
  fit_all before [] (suc j) within fit = subst Fit (sym (append-nil before)) fit
  fit_all before (delta ∷ deltas) zero within fit = subst Fit (sym (append-nil before)) fit
  fit_all before (delta ∷ deltas) (suc j) within fit =
      let parts = or_parts _ _ within in
      subst Fit (append_assoc before (delta ∷ []) (take j deltas)) (fit_all (before ++ delta ∷ []) deltas j parts.1 (fit_more before delta parts.0 fit))

  pub fitting : (j : ℕ) (state : Cursor) → IsAfter part.text j state → length part.text ≤ most_text_bytes
      → list_any is_mapping_past_limit (take j (placed part)) ≡ false → part.source_base < 2 ^ 32 → part.name_base < 2 ^ 32 → IsFitting part state
  unfolding placed mappings_of values_on
  fitting j state after short within source_fits name_fits =
      let fit = fit_all [] (deltas_of part.text) j within (omega arith, omega arith) in
      record {
        short = omega (arith, after.inside);
        sources = subst (λ t. part.source_base + natural t < 2 ^ 32) (ap (λ v. v.source) (sym after.values)) fit.0;
        names = subst (λ t. part.name_base + natural t < 2 ^ 32) (ap (λ v. v.name) (sym after.values)) fit.1;
      }
