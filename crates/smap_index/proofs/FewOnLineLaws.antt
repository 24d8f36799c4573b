-- On a line of a part there are few marks: at most one for as many of its segments as the interval says, and one.
use Rattle.std.proofs.Common.{◌≡◌, ℕ, ◌+◌, ◌-◌, ◌*◌, ◌/◌, ◌%◌, ◌<◌, ◌≤◌, suc, zero, List, [], ◌∷◌, ◌++◌, ◌&&◌, ◌⊎◌, Some, Bool, true, false, length, map, filter, cond}
use Rattle.std.proofs.Common.{refl, ap, sym, subst, ◌∙◌, arith, eqb, eq-eqb, ⊎_elim, inl, inr}
use Rattle.std.specs.List.{slice_get}
use Rattle.std.specs.Option.{option_map_or}
use Rattle.std.proofs.Math.Nat.{add-mod_right, add-mul-div_left}
use Rattle.std.proofs.lemmas.Nat.{le-div, mod_below}
use Rattle.std.proofs.lemmas.Bool.{cond-true, cond-false, cases_Bool, eqb-true, ne_eqb}
use Rattle.std.proofs.lemmas.List.{append_assoc, length-append}
use Rattle.std.proofs.lemmas.List.Elements.{filter-append}
use Rattle.smap_mappings.specs.declared.mapping.Mapping.{Mapping}
use Rattle.smap_index.specs.declared.part.Part.{Part}
use Rattle.smap_index.specs.Parts.{placed}
use Rattle.smap_index.specs.Marks.{mark_in, count_on_line, number_on_line, marked_segments, marks_from, is_mark_on_line, HasFewMarksOnEachLine}
use Rattle.smap_index.proofs.CountingLaws.{as_many}
use Rattle.smap_index.proofs.NumberLaws.{next_remainder}
use Rattle.smap_mappings.specs.Laws.Lists.{slice_get-after}

-- ---- one segment more, in numbers alone

-- the remainder of the number before this one
abbrev remainder_before : ℕ → ℕ → ℕ
remainder_before interval n = (n + (interval - 1)) % interval

remainder_after : (n interval : ℕ) → 0 < interval → remainder_before interval (n + 1) ≡ n % interval
remainder_after n interval positive = let e : n + 1 + (interval - 1) ≡ n + interval = omega arith in ap (λ m. m % interval) e ∙ add-mod_right n interval

-- it is one less, or the greatest before 0
back : (n interval : ℕ) → 0 < interval
    → (n % interval ≡ remainder_before interval n + 1) ⊎ ((n % interval ≡ 0) × (remainder_before interval n + 1 ≡ interval))
back n interval positive =
    let e : n + (interval - 1) + 1 ≡ n + interval = omega arith in
    let same : (n + (interval - 1) + 1) % interval ≡ n % interval = ap (λ m. m % interval) e ∙ add-mod_right n interval in
    ⊎_elim (λ more. inl (sym same ∙ more.0)) (λ none. inr (sym same ∙ none.0, none.1)) (next_remainder (n + (interval - 1)) interval positive)

-- The segment has the number n on its line, and a mark where that is a multiple of the interval. The interval times the
-- marks is at most the segments and the remainder before them: where this holds from the next on, it holds from it on.
one_more : (interval n left marked : ℕ) → 0 < interval → interval * marked ≤ left + remainder_before interval (n + 1) → (b : Bool)
    → b ≡ eqb (n % interval) 0 → interval * cond b (suc marked) marked ≤ suc left + remainder_before interval n
one_more interval n left marked positive few true is =
    let none : n % interval ≡ 0 = eqb-true _ _ (sym is) in
    let after = remainder_after n interval positive in
    ⊎_elim (λ more. absurd (omega (arith, more, none))) (λ whole. omega (arith, few, after, none, whole.1)) (back n interval positive)
one_more interval n left marked positive few false is =
    let after = remainder_after n interval positive in
    ⊎_elim (λ more. omega (arith, few, after, more)) (λ whole. omega (arith, few, after, whole.0)) (back n interval positive)

-- ---- the segments of a part that stand on a line

abbrev is_on : ℕ → Mapping → Bool
is_on line m = eqb m.line line

abbrev is_there : Part → ℕ → ℕ → Bool
is_there part line segment = option_map_or (is_on line) (slice_get (placed part) segment) false

kept : {A : Type 0} (p : A → Bool) (x : A) (xs : List A) → p x ≡ true → length (filter p (x ∷ xs)) ≡ suc (length (filter p xs))
kept p x xs is = ap length (cond-true (p x) (x ∷ filter p xs) (filter p xs) is)

left_out : {A : Type 0} (p : A → Bool) (x : A) (xs : List A) → p x ≡ false → length (filter p (x ∷ xs)) ≡ length (filter p xs)
left_out p x xs is = ap length (cond-false (p x) (x ∷ filter p xs) (filter p xs) is)

kept_if : {A : Type 0} (p : A → Bool) (b : Bool) (x : A) (xs : List A) → p x ≡ true
    → length (filter p (cond b (x ∷ xs) xs)) ≡ cond b (suc (length (filter p xs))) (length (filter p xs))
kept_if p true x xs is = kept p x xs is
kept_if p false x xs is = refl

left_out_if : {A : Type 0} (p : A → Bool) (b : Bool) (x : A) (xs : List A) → p x ≡ false
    → length (filter p (cond b (x ∷ xs) xs)) ≡ length (filter p xs)
left_out_if p true x xs is = left_out p x xs is
left_out_if p false x xs is = refl

module _ (part : Part) (interval : ℕ) (positive : 0 < interval) (line : ℕ) where
  few_from : (before xs : List Mapping) → before ++ xs ≡ placed part
      → interval * length (filter (is_there part line) (marked_segments interval before xs))
      ≤ count_on_line line xs + remainder_before interval (count_on_line line before)
  few_from before [] whole = omega arith
  few_from before (m ∷ xs) whole =
      let after = marked_segments interval (before ++ m ∷ []) xs in
      let has_mark = eqb (number_on_line before m % interval) 0 in
      let rest = few_from (before ++ m ∷ []) xs (append_assoc before (m ∷ []) xs ∙ whole) in
      let there : is_there part line (length before) ≡ is_on line m =
      ap (λ found. option_map_or (is_on line) found false) (ap (λ list. slice_get list (length before)) (sym whole) ∙ slice_get-after before m xs) in
      let counted : count_on_line line (before ++ m ∷ []) ≡ count_on_line line before + count_on_line line (m ∷ []) =
      ap length (filter-append (is_on line) before (m ∷ [])) ∙ length-append _ _ in
      let IsFew : ℕ → Type 0 = λ n. interval * length (filter (is_there part line) after) ≤ count_on_line line xs + remainder_before interval n in
      ⊎_elim
      (λ yes.
      let one = kept (is_on line) m [] yes in
      let more = kept (is_on line) m xs yes in
      let number = ap (λ line. count_on_line line before) (eqb-true m.line line yes) in
      let next : count_on_line line (before ++ m ∷ []) ≡ count_on_line line before + 1 = omega (arith, counted, one) in
      let few = one_more interval (count_on_line line before) (count_on_line line xs) (length (filter (is_there part line) after)) positive
      (subst IsFew next rest) has_mark (ap (λ n. eqb (n % interval) 0) number) in
      omega (arith, few, more, ap (λ n. interval * n) (kept_if (is_there part line) has_mark (length before) after (there ∙ yes))))
      (λ no.
      let none = left_out (is_on line) m [] no in
      let same = left_out (is_on line) m xs no in
      let still : count_on_line line (before ++ m ∷ []) ≡ count_on_line line before = omega (arith, counted, none) in
      let few = subst IsFew still rest in
      omega (arith, few, same, ap (λ n. interval * n) (left_out_if (is_there part line) has_mark (length before) after (there ∙ no))))
      (cases_Bool (is_on line m))

  few_in_part : length (filter (is_there part line) (marked_segments interval [] (placed part))) ≤ count_on_line line (placed part) / interval + 1
  few_in_part =
      let few = few_from [] (placed part) refl in
      let below = mod_below (0 + (interval - 1)) interval positive in
      let quotient = le-div (length (filter (is_there part line) (marked_segments interval [] (placed part)))) (count_on_line line (placed part) + interval * 1)
      interval positive (omega (arith, few, below)) in
      let split = add-mul-div_left (count_on_line line (placed part)) 1 positive in
      omega (arith, quotient, split)

-- ---- the marks of all parts that are on it

module _ (part : Part) (interval number line : ℕ) where
  of_it : (i : ℕ) (segments : List ℕ) → eqb i number ≡ true
      → length (filter (is_mark_on_line part number line) (map (mark_in i) segments)) ≡ length (filter (is_there part line) segments)
  of_it i [] is = refl
  of_it i (segment ∷ segments) is =
      as_many (is_mark_on_line part number line (mark_in i segment)) (is_there part line segment) _ _ _ _
      (ap (λ b. b && is_there part line segment) is) (of_it i segments is)

  of_other : (i : ℕ) (segments : List ℕ) → eqb i number ≡ false → filter (is_mark_on_line part number line) (map (mark_in i) segments) ≡ []
  of_other i [] is = refl
  of_other i (segment ∷ segments) is =
      cond-false (is_mark_on_line part number line (mark_in i segment)) _ _ (ap (λ b. b && is_there part line segment) is) ∙ of_other i segments is

  split : (i : ℕ) (p : Part) (parts : List Part) → filter (is_mark_on_line part number line) (marks_from i (p ∷ parts) interval)
      ≡ filter (is_mark_on_line part number line) (map (mark_in i) (marked_segments interval [] (placed p)))
      ++ filter (is_mark_on_line part number line) (marks_from (i + 1) parts interval)
  split i p parts = filter-append (is_mark_on_line part number line) (map (mark_in i) (marked_segments interval [] (placed p))) (marks_from (i + 1) parts interval)

  none_later : (i : ℕ) (parts : List Part) → number < i → filter (is_mark_on_line part number line) (marks_from i parts interval) ≡ []
  none_later i [] later = refl
  none_later i (p ∷ parts) later =
      split i p parts
      ∙ ap (λ front. front ++ filter (is_mark_on_line part number line) (marks_from (i + 1) parts interval))
      (of_other i (marked_segments interval [] (placed p)) (ne_eqb _ _ (λ (same : i ≡ number). omega (arith, same, later))))
      ∙ none_later (i + 1) parts (omega arith)

  all_of_it : (parts : List Part) (i n : ℕ) → slice_get parts n ≡ Some part → i + n ≡ number
      → length (filter (is_mark_on_line part number line) (marks_from i parts interval))
      ≡ length (filter (is_there part line) (marked_segments interval [] (placed part)))
  all_of_it [] i n there at = absurd (cc)
  all_of_it (p ∷ parts) i zero there at =
      let same : p ≡ part = cc in
      let here = of_it i (marked_segments interval [] (placed p)) (eq-eqb _ _ (omega (arith, at))) in
      let none = ap length (none_later (i + 1) parts (omega (arith, at))) in
      let both : length (filter (is_mark_on_line part number line) (marks_from i (p ∷ parts) interval))
      ≡ length (filter (is_mark_on_line part number line) (map (mark_in i) (marked_segments interval [] (placed p))))
      + length (filter (is_mark_on_line part number line) (marks_from (i + 1) parts interval)) =
      ap length (split i p parts) ∙ length-append _ _ in
      omega (arith, both, here, none, ap (λ p. length (filter (is_there part line) (marked_segments interval [] (placed p)))) same)
  all_of_it (p ∷ parts) i (suc n) there at =
      ap length (split i p parts
      ∙ ap (λ front. front ++ filter (is_mark_on_line part number line) (marks_from (i + 1) parts interval))
      (of_other i (marked_segments interval [] (placed p)) (ne_eqb _ _ (λ (same : i ≡ number). omega (arith, same, at)))))
      ∙ all_of_it parts (i + 1) n there (omega (arith, at))

pub few_on_each_line : (parts : List Part) (interval : ℕ) → 0 < interval → HasFewMarksOnEachLine parts interval
few_on_each_line parts interval positive number line part there =
    let few = few_in_part part interval positive line in
    omega (arith, few, all_of_it part interval number line parts 0 number there (omega arith))
