-- Which entries stay does not depend on more than what two of them are compared by.
use Rattle.std.proofs.Common.{◌≡◌, ℕ, ◌+◌, Bool, true, false, not, ◌&&◌, cond, List, [], ◌∷◌, ◌++◌, map, Option, Some, None, refl, sym, ap, ◌∙◌, ⊎_elim}
use Rattle.std.specs.Prelude.{option_map, slice_get, slice_index}
use Rattle.std.specs.List.{list_any, position}
use Rattle.std.proofs.lemmas.Bool.{cond-true, cond-false, cases_Bool}
use Rattle.std.proofs.lemmas.List.{length-map, map-append}
use Rattle.std.proofs.lemmas.Option.{slice_get-map}
use Rattle.smap_compose.specs.Pruned.{entries_left, first_ones, used_from}
use Rattle.smap_compose.specs.Private.Left.{AreLeft, stays_behind, stays_from, those_marked}
use Rattle.smap_compose.proofs.LeftLaws.{goes, marks_next, stays, used_next}
use Rattle.smap_compose.proofs.PositionLaws.{position-map}

-- ---- entries that are seen by less

module _ {A C : Type 0} (seen : A → C) where
  used_alike : (is_used : ℕ → Bool) (i : ℕ) (entries : List A) → map seen (used_from is_used i entries) ≡ used_from is_used i (map seen entries)
  used_alike is_used i [] = refl
  used_alike is_used i (entry ∷ entries) =
      ap (map seen) (used_next is_used i entry entries)
      ∙ ⊎_elim
      (λ used. ap (map seen) (cond-true _ _ _ used) ∙ ap (λ rest. seen entry ∷ rest) (used_alike is_used (i + 1) entries) ∙ sym (cond-true _ _ _ used))
      (λ unused. ap (map seen) (cond-false _ _ _ unused) ∙ used_alike is_used (i + 1) entries ∙ sym (cond-false _ _ _ unused))
      (cases_Bool (is_used i))
      ∙ sym (used_next is_used i (seen entry) (map seen entries))

  pub marked_alike : (marks : List Bool) (entries : List A) → map seen (those_marked marks entries) ≡ those_marked marks (map seen entries)
  marked_alike marks [] = refl
  marked_alike [] (entry ∷ entries) = refl
  marked_alike (true ∷ marks) (entry ∷ entries) = ap (λ rest. seen entry ∷ rest) (marked_alike marks entries)
  marked_alike (false ∷ marks) (entry ∷ entries) = marked_alike marks entries

  module _ (same : A → A → Bool) (same_seen : C → C → Bool) (alike : (a b : A) → same a b ≡ same_seen (seen a) (seen b)) where
    any_alike : (entry : A) (left : List A) → list_any (same entry) left ≡ list_any (same_seen (seen entry)) (map seen left)
    any_alike entry [] = refl
    any_alike entry (other ∷ left) = rw (alike entry other, any_alike entry left) refl

    first_alike : (left entries : List A) → map seen (first_ones same left entries) ≡ first_ones same_seen (map seen left) (map seen entries)
    first_alike left [] = refl
    first_alike left (entry ∷ entries) =
        ⊎_elim
        (λ one.
        ap (map seen) (cond-true _ _ _ one) ∙ first_alike left entries ∙ sym (cond-true _ _ _ (sym (any_alike entry left) ∙ one)))
        (λ none.
        ap (map seen) (cond-false _ _ _ none)
        ∙ ap (λ rest. seen entry ∷ rest)
        (first_alike (left ++ entry ∷ []) entries ∙ ap (λ left. first_ones same_seen left (map seen entries)) (map-append seen left (entry ∷ [])))
        ∙ sym (cond-false _ _ _ (sym (any_alike entry left) ∙ none)))
        (cases_Bool (list_any (same entry) left))

    pub left_alike : (is_used : ℕ → Bool) (entries : List A) → map seen (entries_left same is_used entries) ≡ entries_left same_seen is_used (map seen entries)
    left_alike is_used entries = first_alike [] (used_from is_used 0 entries) ∙ ap (first_ones same_seen []) (used_alike is_used 0 entries)

    behind_alike : (is_used : ℕ → Bool) (i : ℕ) (left : List A) (entry : A)
        → stays_behind same is_used i left entry ≡ stays_behind same_seen is_used i (map seen left) (seen entry)
    behind_alike is_used i left entry = ap (λ known. is_used i && not known) (any_alike entry left)

    stays_alike : (is_used : ℕ → Bool) (i : ℕ) (left entries : List A)
        → stays_from same is_used i left entries ≡ stays_from same_seen is_used i (map seen left) (map seen entries)
    stays_alike is_used i left [] = refl
    stays_alike is_used i left (entry ∷ entries) = by (stays_behind same is_used i left entry) refl (λ left. stays_alike is_used (i + 1) left entries)
      where
        by : (mark : Bool) → stays_behind same is_used i left entry ≡ mark
            → ((left : List A) → stays_from same is_used (i + 1) left entries ≡ stays_from same_seen is_used (i + 1) (map seen left) (map seen entries))
            → stays_from same is_used i left (entry ∷ entries) ≡ stays_from same_seen is_used i (map seen left) (map seen (entry ∷ entries))
        by mark is rest =
            marks_next same is_used i left entry entries mark is
            ∙ ap (λ marks. mark ∷ marks) (rest (cond mark (left ++ entry ∷ []) left))
            ∙ ap (λ left. mark ∷ stays_from same_seen is_used (i + 1) left (map seen entries)) (left_is mark)
            ∙ sym (marks_next same_seen is_used i (map seen left) (seen entry) (map seen entries) mark (sym (behind_alike is_used i left entry) ∙ is))
          where
            left_is : (mark : Bool) → map seen (cond mark (left ++ entry ∷ []) left) ≡ cond mark (map seen left ++ seen entry ∷ []) (map seen left)
            left_is true = map-append seen left (entry ∷ [])
            left_is false = refl

    place_alike : (is_used : ℕ → Bool) (entries : List A) (entry : A)
        → position (same_seen (seen entry)) (entries_left same_seen is_used (map seen entries)) ≡ position (same entry) (entries_left same is_used entries)
    place_alike is_used entries entry =
        ap (position (same_seen (seen entry))) (sym (left_alike is_used entries))
        ∙ position-map seen (same entry) (same_seen (seen entry)) (alike entry) (entries_left same is_used entries)

    module _ (is_used : ℕ → Bool) (entries : List A) (places : List ℕ) (marks : List Bool) where
      -- what is left of the entries by what is left of what is seen of them
      pub left_from_seen : AreLeft same_seen is_used (map seen entries) places marks → AreLeft same is_used entries places marks
      left_from_seen are = record {
        stays_are = are.stays_are ∙ sym (stays_alike is_used 0 [] entries);
        each = are.each ∙ length-map entries seen;
        placed = λ i entry there used.
            sym (place_alike is_used entries entry)
            ∙ are.placed i (seen entry) (slice_get-map seen entries i ∙ ap (option_map seen) there) used;
      }

      -- and the other way round
      pub seen_from_left : AreLeft same is_used entries places marks → AreLeft same_seen is_used (map seen entries) places marks
      seen_from_left are = record {
        stays_are = are.stays_are ∙ stays_alike is_used 0 [] entries;
        each = are.each ∙ sym (length-map entries seen);
        placed = λ i one there used. by i one (slice_get entries i) refl (sym (slice_get-map seen entries i) ∙ there) used;
      }
        where
          by : (i : ℕ) (one : C) (entry : Option A) → slice_get entries i ≡ entry → option_map seen entry ≡ Some one → is_used i ≡ true
              → position (same_seen one) (entries_left same_seen is_used (map seen entries)) ≡ Some (slice_index places i)
          by i one None is there used = absurd (cc)
          by i one (Some entry) is there used =
              let one_is : seen entry ≡ one = cc in
              ap (λ one. position (same_seen one) (entries_left same_seen is_used (map seen entries))) (sym one_is)
              ∙ place_alike is_used entries entry ∙ are.placed i entry is used

-- ---- those that are marked as staying are those that stay

module _ {A : Type 0} (same : A → A → Bool) (is_used : ℕ → Bool) where
  marked_from : (i : ℕ) (left entries : List A) → those_marked (stays_from same is_used i left entries) entries
      ≡ first_ones same left (used_from is_used i entries)
  marked_from i left [] = refl
  marked_from i left (entry ∷ entries) =
      ⊎_elim
      (λ kept.
      ap (λ marks. those_marked marks (entry ∷ entries)) (marks_next same is_used i left entry entries true kept)
      ∙ ap (λ rest. entry ∷ rest) (marked_from (i + 1) (left ++ entry ∷ []) entries)
      ∙ sym (stays same is_used i left entry entries kept))
      (λ gone.
      ap (λ marks. those_marked marks (entry ∷ entries)) (marks_next same is_used i left entry entries false gone)
      ∙ marked_from (i + 1) left entries
      ∙ sym (goes same is_used i left entry entries gone))
      (cases_Bool (stays_behind same is_used i left entry))

  pub marked_are_left : (entries : List A) → those_marked (stays_from same is_used 0 [] entries) entries ≡ entries_left same is_used entries
  marked_are_left entries = marked_from 0 [] entries
