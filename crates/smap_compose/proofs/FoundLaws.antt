-- Each used entry is the same as one that stays, and there are no more of those than there were entries.
use Rattle.std.proofs.Common.{◌≡◌, ℕ, zero, suc, ◌+◌, ◌≤◌, Bool, true, false, ◌||◌, List, [], ◌∷◌, ◌++◌, length, Option, Some, sym, ap, subst, ◌∙◌, ◌⊎◌, ⊎_elim, arith}
use Rattle.std.specs.Prelude.{slice_get, unwrap_or}
use Rattle.std.specs.Cmp.{IsEquivalence}
use Rattle.std.specs.List.{list_any, position}
use Rattle.std.specs.Option.{option_map_or}
use Rattle.std.proofs.lemmas.Bool.{cond-true, cond-false, cases_Bool, or_cases, or_left, or_right}
use Rattle.std.proofs.lemmas.List.{append-nil, append_assoc}
use Rattle.std.proofs.lemmas.List.Folds.{list_any-append}
use Rattle.std.proofs.lemmas.Map.Steps.{list_any_congr}
use Rattle.smap_compose.specs.Pruned.{entries_left, first_ones, place_left, used_from}
use Rattle.smap_compose.proofs.LeftLaws.{used_next}
use Rattle.smap_compose.proofs.PositionLaws.{PassesAt, position_passes, position_some}

-- ---- counts

few_used : {A : Type 0} (is_used : ℕ → Bool) (i : ℕ) (entries : List A) → length (used_from is_used i entries) ≤ length entries
few_used is_used i [] = omega arith
few_used is_used i (entry ∷ entries) =
    let rest = few_used is_used (i + 1) entries in
    ⊎_elim
    (λ used. let is = ap length (used_next is_used i entry entries ∙ cond-true _ _ _ used) in omega (arith, is))
    (λ unused. let is = ap length (used_next is_used i entry entries ∙ cond-false _ _ _ unused) in omega (arith, is))
    (cases_Bool (is_used i))

few_first : {A : Type 0} (same : A → A → Bool) (left entries : List A) → length (first_ones same left entries) ≤ length entries
few_first same left [] = omega arith
few_first same left (entry ∷ entries) =
    let rest = few_first same left entries in
    let others = few_first same (left ++ entry ∷ []) entries in
    ⊎_elim
    (λ one. let is = ap length (cond-true _ (first_ones same left entries) (entry ∷ first_ones same (left ++ entry ∷ []) entries) one) in omega (arith, is))
    (λ none. let is = ap length (cond-false _ (first_ones same left entries) (entry ∷ first_ones same (left ++ entry ∷ []) entries) none) in omega (arith, is))
    (cases_Bool (list_any (same entry) left))

pub few_left : {A : Type 0} (same : A → A → Bool) (is_used : ℕ → Bool) (entries : List A) → length (entries_left same is_used entries) ≤ length entries
few_left same is_used entries =
    let a = few_used is_used 0 entries in
    let b = few_first same [] (used_from is_used 0 entries) in
    omega arith

-- ---- entries that are found

-- an entry that is used is among those
used_there : {A : Type 0} (p : A → Bool) (is_used : ℕ → Bool) (from i j : ℕ) (entries : List A) (entry : A) → from + i ≡ j
    → slice_get entries i ≡ Some entry → is_used j ≡ true → p entry ≡ true → list_any p (used_from is_used from entries) ≡ true
used_there p is_used from i j [] entry at there used passes = absurd (cc)
used_there p is_used from zero j (first ∷ entries) entry at there used passes =
    let here : from ≡ j = omega arith in
    let is : first ≡ entry = cc in
    ap (list_any p) (used_next is_used from first entries ∙ cond-true _ _ _ (ap is_used here ∙ used))
    ∙ ap (λ now. now || list_any p (used_from is_used (from + 1) entries)) (ap p is ∙ passes)
used_there p is_used from (suc i) j (first ∷ entries) entry at there used passes =
    let rest = used_there p is_used (from + 1) i j entries entry (omega arith) there used passes in
    ⊎_elim
    (λ with_first.
    ap (list_any p) (used_next is_used from first entries ∙ cond-true _ _ _ with_first)
    ∙ ap (λ later. p first || later) rest ∙ ⊎_elim (λ passes. ap (λ now. now || true) passes) (λ fails. ap (λ now. now || true) fails) (cases_Bool (p first)))
    (λ without. ap (list_any p) (used_next is_used from first entries ∙ cond-false _ _ _ without) ∙ rest)
    (cases_Bool (is_used from))

module _ {A : Type 0} (same : A → A → Bool) (laws : IsEquivalence same) where
  either : (entry : A) (left entries : List A) → list_any (same entry) left ≡ true → list_any (same entry) (left ++ entries) ≡ true
  either entry left entries one = list_any-append (same entry) left entries ∙ ap (λ now. now || list_any (same entry) entries) one

  -- what is the same as one of these is the same as one of those that stay
  first_there : (entry : A) (left entries : List A) → (list_any (same entry) left || list_any (same entry) entries) ≡ true
      → list_any (same entry) (left ++ first_ones same left entries) ≡ true
  first_there entry left [] one =
      ap (list_any (same entry)) (append-nil left)
      ∙ ⊎_elim (λ there. there) (λ there. absurd (cc)) (or_cases (list_any (same entry) left) false one)
  first_there entry left (next ∷ entries) one =
      ⊎_elim
      (λ known.
      ap (λ rest. list_any (same entry) (left ++ rest)) (cond-true _ _ _ known)
      ∙ first_there entry left entries (still known (or_cases (list_any (same entry) left) (same entry next || list_any (same entry) entries) one)))
      (λ new.
      ap (λ rest. list_any (same entry) (left ++ rest)) (cond-false _ _ _ new)
      ∙ ap (list_any (same entry)) (sym (append_assoc left (next ∷ []) (first_ones same (left ++ next ∷ []) entries)))
      ∙ first_there entry (left ++ next ∷ []) entries (moved (or_cases (list_any (same entry) left) (same entry next || list_any (same entry) entries) one)))
      (cases_Bool (list_any (same next) left))
    where
      here : Bool
      here = list_any (same entry) left

      later : Bool
      later = list_any (same entry) entries

      more : Bool
      more = list_any (same entry) (left ++ next ∷ [])

      still : list_any (same next) left ≡ true → (here ≡ true) ⊎ ((same entry next || later) ≡ true) → (here || later) ≡ true
      still known = ⊎_elim
          (λ there. or_left here later there)
          (λ behind.
          ⊎_elim
          (λ is_next. or_left here later (list_any_congr laws entry next left is_next ∙ known))
          (λ there. or_right here later there)
          (or_cases (same entry next) later behind))

      pushed : more ≡ (here || (same entry next || false))
      pushed = list_any-append (same entry) left (next ∷ [])

      moved : (here ≡ true) ⊎ ((same entry next || later) ≡ true) → (more || later) ≡ true
      moved = ⊎_elim
          (λ there. or_left more later (pushed ∙ or_left here (same entry next || false) there))
          (λ behind.
          ⊎_elim
          (λ is_next. or_left more later (pushed ∙ or_right here (same entry next || false) (or_left (same entry next) false is_next)))
          (λ there. or_right more later there)
          (or_cases (same entry next) later behind))

  module _ (is_used : ℕ → Bool) (entries : List A) (i : ℕ) (entry : A) (there : slice_get entries i ≡ Some entry) where
    -- the place of an entry by that of one that stays
    pub place_at : (place : ℕ) → position (same entry) (entries_left same is_used entries) ≡ Some place → place_left same is_used entries i ≡ place
    place_at place at =
        ap (λ (found : Option A). option_map_or (λ entry. unwrap_or (position (same entry) (entries_left same is_used entries)) 0) found 0) there
        ∙ ap (λ found. unwrap_or found 0) at

    -- a used entry has a place, where one stays that is the same
    pub place_has : is_used i ≡ true → PassesAt (same entry) (entries_left same is_used entries) (place_left same is_used entries i)
    place_has used =
        let some = used_there (same entry) is_used 0 i i entries entry (omega arith) there used (laws.refl entry) in
        let at = position_some (same entry) (entries_left same is_used entries) (first_there entry [] (used_from is_used 0 entries) some) in
        subst (PassesAt (same entry) (entries_left same is_used entries)) (sym (place_at at.0 at.1))
        (position_passes (same entry) (entries_left same is_used entries) at.0 at.1)
