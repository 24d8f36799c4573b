-- A walk along the bound's line finds the last mapping at the front that stands up to the bound, and the first after it.
use Rattle.std.proofs.Common.{◌≡◌, ℕ, ◌+◌, ◌-◌, ◌<◌, ◌≤◌, suc, zero, true, false, List, [], ◌∷◌, take, drop, map, Option, Some, None, refl}
use Rattle.std.proofs.Common.{sym, ap, subst, ◌∙◌, arith, ⊎_elim}
use Rattle.std.specs.Prelude.{◌⊎◌, IfSome, MatchOption, option_map}
use Rattle.std.specs.List.{slice_get, last_or, list_any}
use Rattle.std.proofs.lemmas.Bool.{cond-true, cond-false, cases_lt, false_from_ne_true}
use Rattle.smap_mappings.specs.LineWalk.{IsStop, IsWalked, decoded_with, decoded_in}
use Rattle.smap_mappings.specs.Mappings.{mappings_of}
use Rattle.smap_mappings.specs.Range.{is_mapping_past_limit}
use Rattle.smap_mappings.specs.State.{mapping_at, IsOnLaterLine}
use Rattle.smap_mappings.specs.declared.cursor.Cursor.{Cursor}
use Rattle.smap_mappings.specs.declared.kind.Kind.{Kind}
use Rattle.smap_mappings.specs.declared.line_walk.LineWalk.{LineWalk}
use Rattle.smap_mappings.specs.declared.mapping.Mapping.{Mapping}
use Rattle.smap_index.specs.Parts.{placed_mapping, placed}
use Rattle.smap_index.specs.Private.Search.{is_up_to, front_up_to, last_from, first_past, on_line}
use Rattle.smap_index.specs.Private.Walk.{end_in}
use Rattle.smap_index.specs.declared.bound.Bound.{Bound}
use Rattle.smap_index.specs.declared.part.Part.{Part}
use Rattle.smap_index.proofs.AnswerLaws.{on_line_same, on_line_other}
use Rattle.smap_index.proofs.BoundLaws.{line_up_to, reaches_in, past_in}
use Rattle.smap_index.proofs.WalkLaws.{placed_there, in_range_at}
use Rattle.smap_mappings.specs.Laws.Counts.{length-mappings_of}
use Rattle.smap_mappings.specs.Laws.Lists.{last_taken, some_same, there_is}

taken : {A : Type 0} (n : ℕ) (xs : List A) (i : ℕ) (x : A) → slice_get (take n xs) i ≡ Some x → (i < n) × (slice_get xs i ≡ Some x)
taken zero xs i x there = absurd (cc)
taken (suc n) [] i x there = absurd (cc)
taken (suc n) (a ∷ xs) zero x there = (omega arith, there)
taken (suc n) (a ∷ xs) (suc i) x there = let rest = taken n xs i x there in (omega (arith, rest.0), rest.1)

take_there : {A : Type 0} (n : ℕ) (xs : List A) (i : ℕ) (x : A) → i < n → slice_get xs i ≡ Some x → slice_get (take n xs) i ≡ Some x
take_there zero xs i x less there = absurd (omega arith)
take_there (suc n) [] i x less there = absurd (cc)
take_there (suc n) (a ∷ xs) zero x less there = there
take_there (suc n) (a ∷ xs) (suc i) x less there = take_there n xs i x (omega arith) there

dropped : {A : Type 0} (j : ℕ) (xs : List A) (i : ℕ) → slice_get (drop j xs) i ≡ slice_get xs (j + i)
dropped zero xs i = let e : i ≡ 0 + i = omega arith in ap (slice_get xs) e
dropped {A = A} (suc j) [] i = none i (suc j + i)
  where
    none : (i n : ℕ) → slice_get {X = A} [] i ≡ slice_get [] n
    none i n = refl
dropped (suc j) (x ∷ xs) i = let e : suc (j + i) ≡ suc j + i = omega arith in dropped j xs i ∙ ap (slice_get (x ∷ xs)) e

mapped : {A B : Type 0} (f : A → B) (xs : List A) (i : ℕ) (y : B) → slice_get (map f xs) i ≡ Some y → (x : A) × (slice_get xs i ≡ Some x) × (f x ≡ y)
mapped f [] i y there = absurd (cc)
mapped f (x ∷ xs) zero y there = (x, refl, some_same (f x) y there)
mapped f (x ∷ xs) (suc i) y there = mapped f xs i y there

module _ (bound : Bound) where
  -- the front ends where all before a place stand up to the bound and what is there does not
  front_is : (xs : List Mapping) (n : ℕ) → ((i : ℕ) → i < n → (m : Mapping) × (slice_get xs i ≡ Some m) × (is_up_to bound m ≡ true))
      → ((m : Mapping) → slice_get xs n ≡ Some m → is_up_to bound m ≡ false) → front_up_to bound xs ≡ n
  front_is [] zero before past = refl
  front_is [] (suc n) before past = let first = before 0 (omega arith) in absurd (let e = first.1 in cc)
  front_is (x ∷ xs) zero before past = cond-false _ _ _ (past x refl)
  front_is (x ∷ xs) (suc n) before past =
      let first = before 0 (omega arith) in
      let same : x ≡ first.0 = some_same x first.0 first.1 in
      let rest = front_is xs n (λ i less. before (suc i) (omega arith)) past in
      let counted = cond-true (is_up_to bound x) (1 + front_up_to bound xs) 0 (ap (is_up_to bound) same ∙ first.2) in
      omega (arith, rest, counted)

module _ (part : Part) (j : ℕ) (start : Cursor) (end most : ℕ) (walk : LineWalk) (walked : IsWalked part.text j start end most walk)
    (none : list_any is_mapping_past_limit (placed part) ≡ false) where
  pub last_in_range : 0 < walk.passed → is_mapping_past_limit (placed_mapping part (mapping_at walk.kind walk.state)) ≡ false
  last_in_range some = in_range_at part (j + walk.passed - 1) (mapping_at walk.kind walk.state) none (walked.passed.last some)

  stop_in_range : (next : Option (Kind × Cursor))
      → MatchOption next ((walk.passed ≡ most) ⊎ IsOnLaterLine part.text (j + walk.passed) start.line)
      (λ next. IsStop part.text (j + walk.passed) start end (mapping_at next.0 next.1))
      → IfSome next (λ next. is_mapping_past_limit (placed_mapping part (mapping_at next.0 next.1)) ≡ false)
  stop_in_range None stops = tt
  stop_in_range (Some next) stops = in_range_at part (j + walk.passed) (mapping_at next.0 next.1) none stops.mapping_is

  pub next_in_range : IfSome walk.next (λ next. is_mapping_past_limit (placed_mapping part (mapping_at next.0 next.1)) ≡ false)
  next_in_range = stop_in_range walk.next walked.stops

module _ (bound : Bound) (part : Part) (j : ℕ) (start : Cursor) (end most : ℕ) (walk : LineWalk)
    (walked : IsWalked part.text j start end most walk) (few : decoded_in walk ≤ most) (same : part.line + start.line ≡ bound.line)
    (end_is : end ≡ end_in part bound start.line) where
  get : (i : ℕ) (m : Mapping) → i < most → slice_get (mappings_of part.text) (j + i) ≡ Some m
      → slice_get (take most (drop j (placed part))) i ≡ Some (placed_mapping part m)
  get i m less there = take_there most _ i _ less (dropped j (placed part) i ∙ placed_there part (j + i) m there)

  got : (i : ℕ) (p : Mapping) → slice_get (take most (drop j (placed part))) i ≡ Some p
      → (i < most) × ((m : Mapping) × (slice_get (mappings_of part.text) (j + i) ≡ Some m) × (placed_mapping part m ≡ p))
  unfolding placed
  got i p there =
      let at = taken most (drop j (placed part)) i p there in
      (at.0, mapped (placed_mapping part) (mappings_of part.text) (j + i) p (sym (dropped j (placed part) i) ∙ at.1))

  later_past : (m : Mapping) → start.line < m.line → is_up_to bound (placed_mapping part m) ≡ false
  later_past m later = false_from_ne_true _
      (λ reached. let line : part.line + m.line ≤ bound.line = line_up_to bound (placed_mapping part m) reached in omega arith)

  stop_past : (next : Option (Kind × Cursor))
      → MatchOption next ((walk.passed ≡ most) ⊎ IsOnLaterLine part.text (j + walk.passed) start.line)
      (λ next. IsStop part.text (j + walk.passed) start end (mapping_at next.0 next.1))
      → walk.passed < most → (m : Mapping) → slice_get (mappings_of part.text) (j + walk.passed) ≡ Some m → is_up_to bound (placed_mapping part m) ≡ false
  stop_past None stops less m there = ⊎_elim (λ all. absurd (omega (arith, all, less))) (λ later. later_past m (later m there)) stops
  stop_past (Some next) stops less m there =
      subst (λ m. is_up_to bound (placed_mapping part m) ≡ false) (some_same _ m (sym stops.mapping_is ∙ there))
      (past_in bound part (mapping_at next.0 next.1) start.line end next.1.column same stops.line end_is refl stops.past)

  front : front_up_to bound (take most (drop j (placed part))) ≡ walk.passed
  front =
      front_is bound (take most (drop j (placed part))) walk.passed
      (λ i less.
      let m = there_is (mappings_of part.text) (j + i) (omega (arith, walked.passed.after.count, length-mappings_of part.text, less)) in
      let before = walked.passed.before i m.0 less m.1 in (
        placed_mapping part m.0,
        get i m.0 (omega (arith, less, walked.few)) m.1,
        reaches_in bound part m.0 start.line end m.0.column same before.0 end_is refl before.1,
      ))
      (λ p there.
      let at = got walk.passed p there in
      subst (λ p. is_up_to bound p ≡ false) at.1.2 (stop_past walk.next walked.stops at.0 at.1.0 at.1.1))

  none_passed : (e : Mapping) → walk.passed ≡ 0 → last_from bound (Some e) (take most (drop j (placed part))) ≡ Some e
  none_passed e none = ap (λ n. last_or (Some e) (take n (take most (drop j (placed part))))) (front ∙ none)

  last_passed : (e : Mapping) → 0 < walk.passed
      → last_from bound (Some e) (take most (drop j (placed part))) ≡ Some (placed_mapping part (mapping_at walk.kind walk.state))
  last_passed e some =
      let back : walk.passed ≡ walk.passed - 1 + 1 = omega arith in
      let place : j + (walk.passed - 1) ≡ j + walk.passed - 1 = omega arith in
      ap (λ n. last_or (Some e) (take n (take most (drop j (placed part))))) (front ∙ back)
      ∙ last_taken (Some e) (take most (drop j (placed part))) (walk.passed - 1) _
      (get (walk.passed - 1) _ (omega (arith, walked.few)) (ap (slice_get (mappings_of part.text)) place ∙ walked.passed.last some))

  -- so the last mapping that the walk passed, and where it passed none, this one, is the last that stands up to the bound
  pub last_found : (e last : Mapping) → (walk.passed ≡ 0 → last ≡ e)
      → (0 < walk.passed → last ≡ placed_mapping part (mapping_at walk.kind walk.state))
      → Some last ≡ last_from bound (Some e) (take most (drop j (placed part)))
  last_found e last none some =
      ⊎_elim
      (λ (more : 0 < walk.passed). ap Some (some more) ∙ sym (last_passed e more))
      (λ (least : walk.passed ≤ 0). let zero : walk.passed ≡ 0 = omega arith in ap Some (none zero) ∙ sym (none_passed e zero))
      (cases_lt 0 walk.passed)

  first_there : (first : Option Mapping) → slice_get (take most (drop j (placed part))) walk.passed ≡ first
      → (next : Option (Kind × Cursor)) → decoded_with walk.passed next ≤ most
      → MatchOption next ((walk.passed ≡ most) ⊎ IsOnLaterLine part.text (j + walk.passed) start.line)
      (λ next. IsStop part.text (j + walk.passed) start end (mapping_at next.0 next.1))
      → on_line bound.line first ≡ option_map (λ next. placed_mapping part (mapping_at next.0 next.1)) next
  first_there first is (Some next) within stops =
      let there = get walk.passed (mapping_at next.0 next.1) (omega (arith, within)) stops.mapping_is in
      ap (on_line bound.line) (sym is ∙ there) ∙ on_line_same bound.line 0 (placed_mapping part (mapping_at next.0 next.1))
      (ap (λ line. part.line + line) stops.line ∙ same)
  first_there None is None within stops = refl
  first_there (Some p) is None within stops =
      let at = got walk.passed p is in
      ⊎_elim
      (λ all. absurd (omega (arith, all, at.0)))
      (λ later.
      let below : start.line < at.1.0.line = later at.1.0 at.1.1 in
      let line : part.line + at.1.0.line ≡ p.line = ap (λ (m : Mapping). m.line) at.1.2 in
      on_line_other bound.line 0 p (λ on. omega arith))
      stops

  -- and the one at which it stopped is the first that does not, where that is on the bound's line
  pub next_found : on_line bound.line (first_past bound (take most (drop j (placed part))))
      ≡ option_map (λ next. placed_mapping part (mapping_at next.0 next.1)) walk.next
  next_found = first_there _ (ap (slice_get (take most (drop j (placed part)))) (sym front)) walk.next few walked.stops
