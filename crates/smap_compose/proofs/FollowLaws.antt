-- A list whose mappings get other origins: each keeps its place, so the same mapping answers, and the order stays.
use Rattle.std.proofs.Common.{◌≡◌, ℕ, List, [], ◌∷◌, filter, map, Option, Some, None, refl, sym, ap, ◌∙◌, ⊎_elim}
use Rattle.std.specs.Prelude.{option_map}
use Rattle.std.specs.List.{last_or}
use Rattle.std.proofs.lemmas.Bool.{cond-true, cond-false, cases_Bool}
use Rattle.smap_mappings.specs.Order.{IsInOrder}
use Rattle.smap_mappings.specs.declared.mapping.Mapping.{Mapping}
use Rattle.smap_mappings.specs.declared.mapping.Origin.{Origin}
use Rattle.smap_index.specs.Answer.{is_on_line_at_or_before, answer_with, answer_of, answer_of_last, answer_at_or_before}
use Rattle.smap_compose.specs.Follow.{CountedMappings, answer_with_origin, with_origin}

pub same_lists : {list list' : List Mapping} {sources sources' names names' : ℕ} → list ≡ list' → sources ≡ sources' → names ≡ names'
    → ◌≡◌ {A = CountedMappings} (record { mappings = list; sources = sources; names = names })
    (record { mappings = list'; sources = sources'; names = names' })
same_lists list_is sources_are names_are = rw (list_is, sources_are, names_are) refl

module _ (origin_of : Origin → Option Origin) (line column : ℕ) where
  -- the mappings that are kept are the same, with other origins
  kept_alike : (list : List Mapping) → filter (is_on_line_at_or_before line column) (map (with_origin origin_of) list)
      ≡ map (with_origin origin_of) (filter (is_on_line_at_or_before line column) list)
  kept_alike [] = refl
  kept_alike (mapping ∷ list) =
      ⊎_elim
      (λ kept. cond-true _ _ _ kept ∙ ap (λ rest. with_origin origin_of mapping ∷ rest) (kept_alike list)
      ∙ ap (map (with_origin origin_of)) (sym (cond-true _ _ _ kept)))
      (λ left. cond-false _ _ _ left ∙ kept_alike list ∙ ap (map (with_origin origin_of)) (sym (cond-false _ _ _ left)))
      (cases_Bool (is_on_line_at_or_before line column mapping))

  last_alike : (earlier : Option Mapping) (list : List Mapping)
      → last_or (option_map (with_origin origin_of) earlier) (map (with_origin origin_of) list)
      ≡ option_map (with_origin origin_of) (last_or earlier list)
  last_alike earlier [] = refl
  last_alike earlier (mapping ∷ list) = last_alike (Some mapping) list

  of_one : (at : ℕ) (origin : Option Origin)
      → answer_of (with_origin origin_of (record { line = line; column = at; origin = origin }))
      ≡ answer_with_origin origin_of (answer_with at origin)
  of_one at None = refl
  of_one at (Some origin) = refl

  of_last : (last : Option Mapping)
      → answer_of_last (option_map (with_origin origin_of) last) ≡ answer_with_origin origin_of (answer_of_last last)
  of_last None = refl
  of_last (Some mapping) = of_one mapping.column mapping.origin

  pub answer_alike : (list : List Mapping) → answer_at_or_before (map (with_origin origin_of) list) line column
      ≡ answer_with_origin origin_of (answer_at_or_before list line column)
  unfolding answer_at_or_before
  answer_alike list =
      ap (λ kept. answer_of_last (last_or None kept)) (kept_alike list)
      ∙ ap answer_of_last (last_alike None (filter (is_on_line_at_or_before line column) list))
      ∙ of_last (last_or None (filter (is_on_line_at_or_before line column) list))

-- the order stays
pub alike_in_order : (origin_of : Origin → Option Origin) (list : List Mapping) → IsInOrder list → IsInOrder (map (with_origin origin_of) list)
alike_in_order origin_of [] order = tt
alike_in_order origin_of (a ∷ []) order = tt
alike_in_order origin_of (a ∷ b ∷ list) order = (order.0, alike_in_order origin_of (b ∷ list) order.1)
