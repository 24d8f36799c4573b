-- The mappings that are asked for, one mapping after another.
use Rattle.std.proofs.Common.{◌≡◌, ℕ, Bool, true, false, List, [], ◌∷◌, ◌++◌, Some, None, sym, ap, subst, ◌∙◌, append_assoc, ⊎_elim}
use Rattle.std.specs.Prelude.{MatchOption, Option, ◌&&◌, filter}
use Rattle.std.proofs.lemmas.Bool.{and_cases, and_parts, cases_Bool, cond-false, cond-true}
use Rattle.std.proofs.lemmas.List.{append-nil}
use Rattle.std.proofs.lemmas.List.Elements.{filter-append}
use Rattle.smap_mappings.specs.declared.mapping.Mapping.{Mapping}
use Rattle.smap_originals.specs.Generated.{column_of, generated_for, generated_next, is_on_side, is_origin_on, nearest, on_side}
use Rattle.smap_originals.specs.Private.Nearest.{AreAt, IsNearestOf}
use Rattle.smap_originals.specs.declared.asked.OriginalDirection.{OriginalDirection}
use Rattle.smap_originals.specs.declared.nearest.NearestMappings.{NearestMappings}
use Rattle.smap_originals.proofs.NearestLaws.{nearest_are}

module _ {X : Type 0} (p : X → Bool) (m : X) where
  -- one that passes goes to the end of those found
  pub one_taken : (found left all : List X) → found ++ filter p (m ∷ left) ≡ all → p m ≡ true → (found ++ m ∷ []) ++ filter p left ≡ all
  one_taken found left all so_far is =
      append_assoc found (m ∷ []) (filter p left) ∙ ap (λ l. found ++ l) (sym (cond-true (p m) (m ∷ filter p left) (filter p left) is)) ∙ so_far

  pub one_passed : (found left all : List X) → found ++ filter p (m ∷ left) ≡ all → p m ≡ false → found ++ filter p left ≡ all
  one_passed found left all so_far is =
      ap (λ l. found ++ l) (sym (cond-false (p m) (m ∷ filter p left) (filter p left) is)) ∙ so_far

  kept_more : (xs : List X) → p m ≡ true → filter p (xs ++ m ∷ []) ≡ filter p xs ++ m ∷ []
  kept_more xs is = filter-append p xs (m ∷ []) ∙ ap (λ l. filter p xs ++ l) (cond-true (p m) (m ∷ []) [] is)

  kept_same : (xs : List X) → p m ≡ false → filter p (xs ++ m ∷ []) ≡ filter p xs
  kept_same xs is = filter-append p xs (m ∷ []) ∙ ap (λ l. filter p xs ++ l) (cond-false (p m) (m ∷ []) [] is) ∙ append-nil (filter p xs)

module _ (direction : OriginalDirection) (source line column : ℕ) (m : Mapping) (done : List Mapping) where
  pub side_more : is_origin_on source line m.origin ≡ true → is_on_side direction column (column_of m.origin) ≡ true
      → on_side direction column (generated_for (done ++ m ∷ []) source line) ≡ on_side direction column (generated_for done source line) ++ m ∷ []
  side_more on_line inside =
      ap (on_side direction column) (kept_more (λ x. is_origin_on source line x.origin) m done on_line)
      ∙ kept_more (λ x. is_on_side direction column (column_of x.origin)) m (generated_for done source line) inside

  pub side_same : (is_origin_on source line m.origin && is_on_side direction column (column_of m.origin)) ≡ false
      → on_side direction column (generated_for (done ++ m ∷ []) source line) ≡ on_side direction column (generated_for done source line)
  side_same outside = ⊎_elim
      (λ off_line. ap (on_side direction column) (kept_same (λ x. is_origin_on source line x.origin) m done off_line))
      (λ off_side. ⊎_elim
      (λ on_line. ap (on_side direction column) (kept_more (λ x. is_origin_on source line x.origin) m done on_line)
      ∙ kept_same (λ x. is_on_side direction column (column_of x.origin)) m (generated_for done source line) off_side)
      (λ off_line. ap (on_side direction column) (kept_same (λ x. is_origin_on source line x.origin) m done off_line))
      (cases_Bool (is_origin_on source line m.origin)))
      (and_cases (is_origin_on source line m.origin) (is_on_side direction column (column_of m.origin)) outside)

nearest_of : (direction : OriginalDirection) (xs items : List Mapping) (best : Option ℕ)
    → MatchOption best ((xs ≡ []) × (items ≡ [])) (λ c. AreAt direction xs c items) → items ≡ nearest direction xs
nearest_of direction xs items None none = none.1 ∙ sym (ap (nearest direction) none.0)
nearest_of direction xs items (Some best) some = some.found_are ∙ sym (nearest_are direction xs best some.some some.none_nearer)

-- the nearest of all that are asked for
pub nearest_found : (direction : OriginalDirection) (list : List Mapping) (source line column : ℕ) (found : NearestMappings)
    → IsNearestOf direction (on_side direction column (generated_for list source line)) found
    → found.mappings.items ≡ generated_next direction list source line column
unfolding generated_next
nearest_found direction list source line column found are =
    nearest_of direction (on_side direction column (generated_for list source line)) found.mappings.items found.column are

-- ---- a step

module _ (direction : OriginalDirection) (source line column : ℕ) (m : Mapping) (left all : List Mapping) (found next : NearestMappings) (old : List Mapping)
    (steps : old ≡ m ∷ left) where
  abbrev pub Walked : List Mapping → NearestMappings → Type 0
  Walked rest nearest = (done : List Mapping) × (done ++ rest ≡ all) × IsNearestOf direction (on_side direction column (generated_for done source line)) nearest

  one_done : (done : List Mapping) → done ++ old ≡ all → (done ++ m ∷ []) ++ left ≡ all
  one_done done is = append_assoc done (m ∷ []) left ∙ ap (λ l. done ++ l) (sym steps) ∙ is

  pub walked_passed : Walked old found → (is_origin_on source line m.origin && is_on_side direction column (column_of m.origin)) ≡ false → Walked left found
  walked_passed so_far outside = (
    so_far.0 ++ m ∷ [],
    one_done so_far.0 so_far.1,
    subst (λ l. IsNearestOf direction l found) (sym (side_same direction source line column m so_far.0 outside)) so_far.2,
  )

  pub walked_taken : Walked old found → (is_origin_on source line m.origin && is_on_side direction column (column_of m.origin)) ≡ true
      → ((mappings : List Mapping) → IsNearestOf direction mappings found → IsNearestOf direction (mappings ++ m ∷ []) next) → Walked left next
  walked_taken so_far inside adds =
      let parts = and_parts (is_origin_on source line m.origin) (is_on_side direction column (column_of m.origin)) inside in (
        so_far.0 ++ m ∷ [],
        one_done so_far.0 so_far.1,
        subst (λ l. IsNearestOf direction l next) (sym (side_more direction source line column m so_far.0 parts.0 parts.1))
            (adds (on_side direction column (generated_for so_far.0 source line)) so_far.2),
      )

pub walked_all : (direction : OriginalDirection) (source line column : ℕ) (rest all : List Mapping) (found : NearestMappings) → rest ≡ []
    → (done : List Mapping) × (done ++ rest ≡ all) × IsNearestOf direction (on_side direction column (generated_for done source line)) found
    → found.mappings.items ≡ generated_next direction all source line column
walked_all direction source line column rest all found empty walked =
    let whole : walked.0 ≡ all = sym (append-nil walked.0) ∙ ap (λ r. walked.0 ++ r) (sym empty) ∙ walked.1 in
    subst (λ l. found.mappings.items ≡ generated_next direction l source line column) whole
    (nearest_found direction walked.0 source line column found walked.2)
