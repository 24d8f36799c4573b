-- Which entries stay, entry by entry.
use Rattle.std.proofs.Common.{◌≡◌, ℕ, ◌+◌, ◌<◌, ◌≤◌, Bool, true, false, not, ◌&&◌, cond, List, [], ◌∷◌, ◌++◌, length, map, filter, drop, get_or, Option, Some, None, refl, sym, ap, subst, ◌∙◌, ⊎_elim, eq-or-lt_of_le, arith}
use Rattle.std.specs.Prelude.{slice_get}
use Rattle.std.specs.Cmp.{IsEquivalence}
use Rattle.std.specs.List.{enumerate_from, list_any, position}
use Rattle.std.proofs.lemmas.Bool.{cond-true, cond-false, cases_Bool, cases_eq, and_from, and_parts, and_right, not-true}
use Rattle.std.proofs.lemmas.Map.Steps.{list_any_congr}
use Rattle.std.proofs.lemmas.List.{append_assoc, length-append, get_or_append_left, get_or_push}
use Rattle.smap_mappings.specs.Laws.Lists.{drop_next}
use Rattle.smap_compose.specs.Pruned.{entries_left, first_ones, used_from}
use Rattle.smap_compose.specs.Private.Left.{stays_behind, stays_from}
use Rattle.smap_compose.proofs.PositionLaws.{position_none, position_some, position_stays, position_pushed, position_passed_over}

-- ---- one entry more

pub used_next : {A : Type 0} (is_used : ℕ → Bool) (i : ℕ) (entry : A) (entries : List A)
    → used_from is_used i (entry ∷ entries) ≡ cond (is_used i) (entry ∷ used_from is_used (i + 1) entries) (used_from is_used (i + 1) entries)
used_next {A} is_used i entry entries = by (is_used i)
  where
    others : List (ℕ × A)
    others = filter (λ (at : ℕ × A). is_used at.0) (enumerate_from (i + 1) entries)

    by : (used : Bool) → map (λ (at : ℕ × A). at.1) (cond used ((i, entry) ∷ others) others)
        ≡ cond used (entry ∷ map (λ (at : ℕ × A). at.1) others) (map (λ (at : ℕ × A). at.1) others)
    by true = refl
    by false = refl

module _ {A : Type 0} (same : A → A → Bool) (is_used : ℕ → Bool) where
  pub marks_next : (i : ℕ) (left : List A) (entry : A) (entries : List A) (mark : Bool) → stays_behind same is_used i left entry ≡ mark
      → stays_from same is_used i left (entry ∷ entries) ≡ mark ∷ stays_from same is_used (i + 1) (cond mark (left ++ entry ∷ []) left) entries
  marks_next i left entry entries mark is = ap (λ mark. mark ∷ stays_from same is_used (i + 1) (cond mark (left ++ entry ∷ []) left) entries) is

  -- an entry that is not used, or that is the same as one that stays, goes
  pub goes : (i : ℕ) (left : List A) (entry : A) (entries : List A) → stays_behind same is_used i left entry ≡ false
      → first_ones same left (used_from is_used i (entry ∷ entries)) ≡ first_ones same left (used_from is_used (i + 1) entries)
  goes i left entry entries = λ gone. ap (first_ones same left) (used_next is_used i entry entries) ∙ by (is_used i) (list_any (same entry) left) refl gone
    where
      by : (used known : Bool) → list_any (same entry) left ≡ known → (used && not known) ≡ false
          → first_ones same left (cond used (entry ∷ used_from is_used (i + 1) entries) (used_from is_used (i + 1) entries))
          ≡ first_ones same left (used_from is_used (i + 1) entries)
      by false known is gone = refl
      by true true is gone = cond-true _ _ _ is
      by true false is gone = absurd (cc)

  -- one that is used, and is the same as none that stays, stays
  pub stays : (i : ℕ) (left : List A) (entry : A) (entries : List A) → stays_behind same is_used i left entry ≡ true
      → first_ones same left (used_from is_used i (entry ∷ entries)) ≡ entry ∷ first_ones same (left ++ entry ∷ []) (used_from is_used (i + 1) entries)
  stays i left entry entries = λ kept. ap (first_ones same left) (used_next is_used i entry entries) ∙ by (is_used i) (list_any (same entry) left) refl kept
    where
      by : (used known : Bool) → list_any (same entry) left ≡ known → (used && not known) ≡ true
          → first_ones same left (cond used (entry ∷ used_from is_used (i + 1) entries) (used_from is_used (i + 1) entries))
          ≡ entry ∷ first_ones same (left ++ entry ∷ []) (used_from is_used (i + 1) entries)
      by true false is kept = cond-false _ _ _ is
      by true true is kept = absurd (cc)
      by false known is kept = absurd (cc)

  -- ---- what is known of an entry by its place among those that stay

  module _ (i : ℕ) (left : List A) (entry : A) where
    known_goes : (place : ℕ) → position (same entry) left ≡ Some place → stays_behind same is_used i left entry ≡ false
    known_goes place at =
        and_right (is_used i) (not (list_any (same entry) left))
        (⊎_elim (λ one. ap not one) (λ none. absurd (cc (position_none (same entry) left none))) (cases_Bool (list_any (same entry) left)))

    new_stays : is_used i ≡ true → position (same entry) left ≡ None → stays_behind same is_used i left entry ≡ true
    new_stays used none =
        and_from (is_used i) (not (list_any (same entry) left)) used
        (⊎_elim (λ one. absurd (cc ((position_some (same entry) left one).1))) (λ none. ap not none) (cases_Bool (list_any (same entry) left)))

  -- ---- the first n entries are seen

  -- these stay of them; `found` has the places of these, and `places` and `marks` what is known of each entry
  pub record AreSeen (entries : List A) (n : ℕ) (left : List A) (found : A → Option ℕ) (many : ℕ) (places : List ℕ) (marks : List Bool) : Type 0 where
    pub marks_are : marks ++ stays_from same is_used n left (drop n entries) ≡ stays_from same is_used 0 [] entries
    pub left_are : left ++ first_ones same left (used_from is_used n (drop n entries)) ≡ entries_left same is_used entries
    pub found_are : (entry : A) → found entry ≡ position (same entry) left
    pub many_are : many ≡ length left
    pub few : many ≤ n
    pub each : length places ≡ n
    pub placed : (i : ℕ) (entry : A) → i < n → slice_get entries i ≡ Some entry → is_used i ≡ true → position (same entry) left ≡ Some (get_or places i 0)

  -- at lists that are equal to these
  seen_at : (entries : List A) (n : ℕ) (left : List A) (found : A → Option ℕ) (many : ℕ) (places places' : List ℕ) (marks marks' : List Bool)
      → places' ≡ places → marks' ≡ marks → AreSeen entries n left found many places marks → AreSeen entries n left found many places' marks'
  seen_at entries n left found many places places' marks marks' places_are marks_are seen =
      let P : List ℕ → Type 0 = λ places. AreSeen entries n left found many places marks in
      let Q : List Bool → Type 0 = λ marks. AreSeen entries n left found many places' marks in
      subst Q (sym marks_are) (subst P (sym places_are) seen)

  module _ (laws : IsEquivalence same) (entries : List A) (n : ℕ) (left : List A) (found : A → Option ℕ) (many : ℕ) (places : List ℕ) (marks : List Bool)
      (seen : AreSeen entries n left found many places marks) (entry : A) (there : slice_get entries n ≡ Some entry) where
    next : drop n entries ≡ entry ∷ drop (n + 1) entries
    next = drop_next entries n entry there

    -- places stay, and the new entry has this one
    placed_more : (left' : List A) (place : ℕ)
        → ((e : A) (i : ℕ) → position (same e) left ≡ Some i → position (same e) left' ≡ Some i)
        → (is_used n ≡ true → position (same entry) left' ≡ Some place)
        → (i : ℕ) (e : A) → i < n + 1 → slice_get entries i ≡ Some e → is_used i ≡ true → position (same e) left' ≡ Some (get_or (places ++ place ∷ []) i 0)
    placed_more left' place keeps here i e inside is used =
        ⊎_elim
        (λ (last : i ≡ n).
        let e_is : e ≡ entry = cc (ap (slice_get entries) last) in
        let at : get_or (places ++ place ∷ []) i 0 ≡ place = get_or_push places place 0 i (seen.each ∙ sym last) in
        ap (λ e. position (same e) left') e_is ∙ here (ap is_used (sym last) ∙ used) ∙ ap Some (sym at))
        (λ (other : i ≡ n → ⊥).
        let before : i < n = ⊎_elim (λ at. absurd (other at)) (λ at. at) (eq-or-lt_of_le (omega arith)) in
        let at : get_or (places ++ place ∷ []) i 0 ≡ get_or places i 0 = get_or_append_left places (place ∷ []) 0 i (omega (arith, seen.each)) in
        keeps e (get_or places i 0) (seen.placed i e before is used) ∙ ap Some (sym at))
        (cases_eq i n)

    marks_more : (left' : List A) (mark : Bool) → stays_behind same is_used n left entry ≡ mark → cond mark (left ++ entry ∷ []) left ≡ left'
        → (marks ++ mark ∷ []) ++ stays_from same is_used (n + 1) left' (drop (n + 1) entries) ≡ stays_from same is_used 0 [] entries
    marks_more left' mark is left_is =
        append_assoc marks (mark ∷ []) (stays_from same is_used (n + 1) left' (drop (n + 1) entries))
        ∙ ap (λ left. marks ++ mark ∷ stays_from same is_used (n + 1) left (drop (n + 1) entries)) (sym left_is)
        ∙ ap (λ rest. marks ++ rest) (sym (marks_next n left entry (drop (n + 1) entries) mark is))
        ∙ ap (λ rest. marks ++ stays_from same is_used n left rest) (sym next)
        ∙ seen.marks_are

    left_more : (rest : List A) → first_ones same left (used_from is_used n (entry ∷ drop (n + 1) entries)) ≡ rest
        → left ++ rest ≡ entries_left same is_used entries
    left_more rest is =
        ap (λ rest. left ++ rest) (sym is) ∙ ap (λ rest. left ++ first_ones same left (used_from is_used n rest)) (sym next) ∙ seen.left_are

    -- it goes
    one_goes : (place : ℕ) → stays_behind same is_used n left entry ≡ false → (is_used n ≡ true → position (same entry) left ≡ Some place)
        → AreSeen entries (n + 1) left found many (places ++ place ∷ []) (marks ++ false ∷ [])
    one_goes place gone known = record {
      marks_are = marks_more left false gone refl;
      left_are = left_more (first_ones same left (used_from is_used (n + 1) (drop (n + 1) entries))) (goes n left entry (drop (n + 1) entries) gone);
      found_are = seen.found_are;
      many_are = seen.many_are;
      few = omega (arith, seen.few);
      each = length-append places (place ∷ []) ∙ omega (arith, seen.each);
      placed = placed_more left place (λ e i at. at) known;
    }

    is_new : stays_behind same is_used n left entry ≡ true → list_any (same entry) left ≡ false
    is_new kept = not-true _ (and_parts (is_used n) (not (list_any (same entry) left)) kept).1

    -- an entry that is the same as the new one is found there, and any other where it was
    found_more : stays_behind same is_used n left entry ≡ true → (e : A)
        → cond (same entry e) (Some many) (found e) ≡ position (same e) (left ++ entry ∷ [])
    found_more kept e =
        ⊎_elim
        (λ alike.
        let back : same e entry ≡ true = laws.symm e entry ∙ alike in
        let none : position (same e) left ≡ None = position_none (same e) left (list_any_congr laws e entry left back ∙ is_new kept) in
        cond-true _ _ _ alike ∙ ap Some seen.many_are ∙ sym (position_pushed (same e) left entry none back))
        (λ other. cond-false _ _ _ other ∙ seen.found_are e ∙ sym (position_passed_over (same e) left entry (laws.symm e entry ∙ other)))
        (cases_Bool (same entry e))

    -- it stays
    one_stays : (found' : A → Option ℕ) → stays_behind same is_used n left entry ≡ true
        → ((e : A) → found' e ≡ cond (same entry e) (Some many) (found e))
        → AreSeen entries (n + 1) (left ++ entry ∷ []) found' (many + 1) (places ++ many ∷ []) (marks ++ true ∷ [])
    one_stays found' kept finds = record {
      marks_are = marks_more (left ++ entry ∷ []) true kept refl;
      left_are =
          append_assoc left (entry ∷ []) (first_ones same (left ++ entry ∷ []) (used_from is_used (n + 1) (drop (n + 1) entries)))
          ∙ left_more (entry ∷ first_ones same (left ++ entry ∷ []) (used_from is_used (n + 1) (drop (n + 1) entries)))
          (stays n left entry (drop (n + 1) entries) kept);
      found_are = λ e. finds e ∙ found_more kept e;
      many_are = omega (arith, seen.many_are, length-append left (entry ∷ []));
      few = omega (arith, seen.few);
      each = length-append places (many ∷ []) ∙ omega (arith, seen.each);
      placed = placed_more (left ++ entry ∷ []) many (λ e i at. position_stays (same e) left (entry ∷ []) i at)
          (λ used. position_pushed (same entry) left entry (position_none (same entry) left (is_new kept)) (laws.refl entry) ∙ ap Some (sym seen.many_are));
    }

  -- ---- the next entry is looked up among those that stay

  -- some of the first n entries stay
  abbrev pub SomeSeen : (entries : List A) (n : ℕ) (found : A → Option ℕ) (many : ℕ) (places : List ℕ) (marks : List Bool) → Type 0
  SomeSeen entries n found many places marks = (left : List A) × AreSeen entries n left found many places marks

  module _ (laws : IsEquivalence same) (entries : List A) (n : ℕ) (found : A → Option ℕ) (many : ℕ) (places : List ℕ) (marks : List Bool)
      (some : SomeSeen entries n found many places marks) (entry : A) (there : slice_get entries n ≡ Some entry) (places' : List ℕ) (marks' : List Bool) where
    pub known_next : (place : ℕ) → Some place ≡ found entry → places' ≡ places ++ place ∷ [] → marks' ≡ marks ++ false ∷ []
        → SomeSeen entries (n + 1) found many places' marks'
    known_next place finds places_are marks_are =
        let known : position (same entry) some.0 ≡ Some place = sym (some.1.found_are entry) ∙ sym finds in (
          some.0,
          seen_at entries (n + 1) some.0 found many (places ++ place ∷ []) places' (marks ++ false ∷ []) marks' places_are marks_are
              (one_goes laws entries n some.0 found many places marks some.1 entry there place (known_goes n some.0 entry place known) (λ used. known)),
        )

    pub new_next : (found' : A → Option ℕ) → is_used n ≡ true → None ≡ found entry → ((e : A) → found' e ≡ cond (same entry e) (Some many) (found e))
        → places' ≡ places ++ many ∷ [] → marks' ≡ marks ++ true ∷ [] → SomeSeen entries (n + 1) found' (many + 1) places' marks'
    new_next found' used none finds places_are marks_are =
        let new : position (same entry) some.0 ≡ None = sym (some.1.found_are entry) ∙ sym none in (
          some.0 ++ entry ∷ [],
          seen_at entries (n + 1) (some.0 ++ entry ∷ []) found' (many + 1) (places ++ many ∷ []) places' (marks ++ true ∷ []) marks'
              places_are marks_are
              (one_stays laws entries n some.0 found many places marks some.1 entry there found' (new_stays n some.0 entry used new) finds),
        )
