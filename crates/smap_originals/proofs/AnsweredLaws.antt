-- What is found among the places of a source, in the order of their originals, is what the definitions give.
use Rattle.std.proofs.Common.{◌≡◌, ℕ, Bool, true, false, List, [], map, refl, sym, ap, subst, ◌∙◌, arith, ⊎_elim}
use Rattle.std.specs.Prelude.{Option, None, Some, not, ◌==◌, ◌&&◌, filter}
use Rattle.std.specs.List.{list_any}
use Rattle.std.specs.List.Sorted.{ties}
use Rattle.std.specs.Ordering.{is_lt, nat_cmp}
use Rattle.std.proofs.lemmas.Bool.{and_parts, and_right, cases_Bool, eqb-true}
use Rattle.std.proofs.lemmas.Bool.Decides.{nat_tests}
use Rattle.std.proofs.lemmas.List.Elements.{filter_agree}
use Rattle.std.proofs.lemmas.List.Sorted.{list_any-IsPermutation}
use Rattle.smap_mappings.specs.declared.mapping.Mapping.{Mapping}
use Rattle.smap_mappings.specs.declared.mapping.Origin.{Origin}
use Rattle.smap_originals.specs.Generated.{column_of, generated_for, generated_next, is_nearer, is_on_side, is_origin_on, nearest, on_side}
use Rattle.smap_originals.specs.Originals.{AreOriginalsOf, IsByOriginal, from_source, is_of, line_of, of_source, order_of, original_order, place_of}
use Rattle.smap_originals.specs.Private.Nearest.{has_column}
use Rattle.smap_originals.specs.Private.Run.{AreFound, AreNearest, is_candidate, is_original}
use Rattle.smap_originals.specs.declared.asked.OriginalDirection.{OriginalDirection}
use Rattle.smap_originals.specs.declared.place.GeneratedPlace.{GeneratedPlace}
use Rattle.smap_originals.proofs.ListLaws.{any_alike, any_filter, any_map, any_none, filter_filter, filter_of_map, none_kept}
use Rattle.smap_originals.proofs.NearestLaws.{nearest_are}

-- ---- one place

joined_tests : (a b c : Bool) → ((a && b) && c) ≡ (a && (b && c))
joined_tests a b c = elim a as (λ v. ((v && b) && c) ≡ (v && (b && c))) [ true ↦ refl | false ↦ refl ]

and_yes : (a : Bool) → (a && true) ≡ a
and_yes a = elim a as (λ v. (v && true) ≡ v) [ true ↦ refl | false ↦ refl ]

tied_numbers : (m n : ℕ) → m ≡ n → (not (is_lt (nat_cmp m n)) && not (is_lt (nat_cmp n m))) ≡ true
tied_numbers m n same = grind (arith, nat_tests)

-- on the line, on the side and at the column is at the column alone, where that is on the side
at_best : (direction : OriginalDirection) (line column best : ℕ) → is_on_side direction column best ≡ true → (p : GeneratedPlace)
    → (is_candidate direction line column p && (p.original_column == best)) ≡ is_original line best p
at_best direction line column best inside p = ⊎_elim
    (λ is. let there : is_on_side direction column p.original_column ≡ true = ap (is_on_side direction column) (eqb-true p.original_column best is) ∙ inside in
    ap (λ b. ((p.original_line == line) && b) && (p.original_column == best)) there
    ∙ ap (λ b. b && (p.original_column == best)) (and_yes (p.original_line == line)))
    (λ other. and_right (is_candidate direction line column p) (p.original_column == best) other
    ∙ sym (and_right (p.original_line == line) (p.original_column == best) other))
    (cases_Bool (p.original_column == best))

module _ (direction : OriginalDirection) (list : List Mapping) (source line column : ℕ) where
  with_origin : (o : Option Origin) → (is_origin_on source line o && is_on_side direction column (column_of o))
      ≡ (is_of source o && ((line_of o == line) && is_on_side direction column (column_of o)))
  with_origin None = refl
  with_origin (Some o) = joined_tests (o.source == source) (o.line == line) (is_on_side direction column o.column)

  -- those on the line and on the side are the candidates of the source
  candidates : on_side direction column (generated_for list source line)
      ≡ filter (λ m. is_candidate direction line column (place_of m)) (from_source source list)
  candidates =
      filter_filter (λ m. is_on_side direction column (column_of m.origin)) (λ m. is_origin_on source line m.origin) list
      ∙ filter_agree (λ m. is_origin_on source line m.origin && is_on_side direction column (column_of m.origin))
      (λ m. is_of source m.origin && is_candidate direction line column (place_of m)) (λ m. with_origin m.origin) list
      ∙ sym (filter_filter (λ m. is_candidate direction line column (place_of m)) (λ m. is_of source m.origin) list)

  module _ (places : List GeneratedPlace) (by : IsByOriginal (map place_of (from_source source list)) places) where
    any_place : (r : GeneratedPlace → Bool) → list_any (λ m. r (place_of m)) (from_source source list) ≡ list_any r places
    any_place r = sym (any_map place_of r (from_source source list)) ∙ list_any-IsPermutation r (map place_of (from_source source list)) places by.same

    any_candidate : (r : GeneratedPlace → Bool) → list_any (λ m. r (place_of m)) (on_side direction column (generated_for list source line))
        ≡ list_any (λ p. is_candidate direction line column p && r p) places
    any_candidate r =
        ap (list_any (λ m. r (place_of m))) candidates
        ∙ any_filter (λ m. r (place_of m)) (λ m. is_candidate direction line column (place_of m)) (from_source source list)
        ∙ any_place (λ p. is_candidate direction line column p && r p)

    tied : ℕ → GeneratedPlace → Bool
    tied best = ties (λ a b. is_lt (nat_cmp (original_order a) (original_order b))) (record { line = 0; column = 0; original_line = line; original_column = best })

    tied_here : (best : ℕ) (p : GeneratedPlace) → is_original line best p ≡ (tied best p && is_original line best p)
    unfolding tied
    tied_here best p = ⊎_elim
        (λ is. let parts = and_parts (p.original_line == line) (p.original_column == best) is in
        let line_is = eqb-true p.original_line line parts.0 in
        let column_is = eqb-true p.original_column best parts.1 in
        sym (ap (λ b. b && is_original line best p) (tied_numbers (order_of line best) (original_order p) (omega (arith, line_is, column_is)))))
        (λ other. other ∙ sym (and_right (tied best p) (is_original line best p) other))
        (cases_Bool (is_original line best p))

    stable_here : (best : ℕ) → filter (is_original line best) places ≡ filter (is_original line best) (map place_of (from_source source list))
    unfolding tied
    stable_here best =
        filter_agree (is_original line best) (λ p. tied best p && is_original line best p) (tied_here best) places
        ∙ sym (filter_filter (is_original line best) (tied best) places)
        ∙ ap (filter (is_original line best)) (by.stable (record { line = 0; column = 0; original_line = line; original_column = best }))
        ∙ filter_filter (is_original line best) (tied best) (map place_of (from_source source list))
        ∙ sym (filter_agree (is_original line best) (λ p. tied best p && is_original line best p) (tied_here best) (map place_of (from_source source list)))

    none_found : list_any (is_candidate direction line column) places ≡ false → [] ≡ map place_of (generated_next direction list source line column)
    unfolding generated_next
    none_found none =
        let empty : on_side direction column (generated_for list source line) ≡ [] =
        candidates ∙ none_kept (λ m. is_candidate direction line column (place_of m)) (from_source source list)
        (any_none (λ m. is_candidate direction line column (place_of m)) (from_source source list) (any_place (is_candidate direction line column) ∙ none)) in
        sym (ap (λ l. map place_of (nearest direction l)) empty)

    some_found : (best : ℕ) (found : List GeneratedPlace) → AreNearest direction line column best places found
        → found ≡ map place_of (generated_next direction list source line column)
    unfolding generated_next
    some_found best found are =
        let xs = on_side direction column (generated_for list source line) in
        let there : list_any (has_column best) xs ≡ true =
        any_candidate (λ p. p.original_column == best)
        ∙ any_alike (λ p. is_candidate direction line column p && (p.original_column == best)) (is_original line best) (at_best direction line column best are.on_side) places
        ∙ are.some in
        let none : list_any (λ m. is_nearer direction (column_of m.origin) best) xs ≡ false =
        any_candidate (λ p. is_nearer direction p.original_column best) ∙ are.none_nearer in
        let kept : filter (has_column best) xs ≡ filter (λ m. is_original line best (place_of m)) (from_source source list) =
        ap (filter (has_column best)) candidates
        ∙ filter_filter (has_column best) (λ m. is_candidate direction line column (place_of m)) (from_source source list)
        ∙ filter_agree (λ m. is_candidate direction line column (place_of m) && has_column best m) (λ m. is_original line best (place_of m))
        (λ m. at_best direction line column best are.on_side (place_of m)) (from_source source list) in
        are.found_are ∙ stable_here best ∙ filter_of_map place_of (is_original line best) (from_source source list)
        ∙ ap (map place_of) (sym kept ∙ sym (nearest_are direction xs best there none))

    pub found_is : (found : List GeneratedPlace) → AreFound direction line column places found
        → found ≡ map place_of (generated_next direction list source line column)
    found_is found are = ⊎_elim
        (λ none. none.0 ∙ none_found none.1)
        (λ some. some_found some.0 found some.1)
        are

-- the same of an index
pub found_in : (direction : OriginalDirection) (list : List Mapping) (source line column : ℕ) (originals : List (List GeneratedPlace)) (places found : List GeneratedPlace)
    → AreOriginalsOf list originals → of_source originals source ≡ places → AreFound direction line column places found
    → found ≡ map place_of (generated_next direction list source line column)
found_in direction list source line column originals places found are same in_places =
    found_is direction list source line column (of_source originals source) (are source) found
    (subst (λ l. AreFound direction line column l found) (sym same) in_places)
