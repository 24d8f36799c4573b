-- Who owns a position between the last mapping that was passed and the next.
use Rattle.std.proofs.Common.{◌≡◌, ◌<◌, ◌≤◌, ◌⊎◌, ℕ, zero, suc, true, false, List, [], ◌∷◌, Option, Some, None, inl, inr, ⊎_elim, refl, sym, ap, ◌∙◌, arith}
use Rattle.std.specs.Prelude.{filter, All, IfSome, IfNone, MatchOption}
use Rattle.std.specs.List.{last_or}
use Rattle.std.proofs.lemmas.Bool.{cases_Bool, cond-true, cond-false}
use Rattle.std.proofs.lemmas.Bool.Decides.{nat_tests}
use Rattle.std.proofs.lemmas.List.Elements.{All-cons}
use Rattle.smap_index.specs.Answer.{answer_at_or_before, answer_of, answer_of_last, is_on_line_at_or_before}
use Rattle.smap_index.proofs.PositionLaws.{at_or_before}
use Rattle.smap_mappings.specs.Order.{IsAtOrBefore, IsInOrder}
use Rattle.smap_mappings.specs.Range.{position_at, stands_before}
use Rattle.smap_mappings.specs.Within.{IsWithin}
use Rattle.smap_mappings.specs.declared.mapping.Mapping.{Mapping}
use Rattle.smap_mappings.specs.declared.mapping.Origin.{Origin}
use Rattle.smap_fit.specs.Owners.{answered_source, owner_at}
use Rattle.smap_fit.specs.Private.Left.{OwnsAlike, with_next}
use Rattle.smap_fit.specs.Shares.{source_of}

-- ---- the tests of a look-up

is_passed : (m : Mapping) (line column : ℕ) → m.line ≡ line → m.column ≤ column → is_on_line_at_or_before line column m ≡ true
is_passed m line column same within = grind (arith, nat_tests)

passed_parts : (m : Mapping) (line column : ℕ) → is_on_line_at_or_before line column m ≡ true → (m.line ≡ line) × (m.column ≤ column)
passed_parts m line column is = (grind (arith, nat_tests), grind (arith, nat_tests))

is_not_passed : (m : Mapping) (line column : ℕ) → stands_before (position_at line column) m ≡ true → is_on_line_at_or_before line column m ≡ false
is_not_passed m line column past = grind (arith, nat_tests)

on_other_line : (m : Mapping) (line column : ℕ) → (m.line ≡ line → ⊥) → is_on_line_at_or_before line column m ≡ false
on_other_line m line column other = grind (arith, nat_tests)

-- what a mapping at the position or before it, behind one on its line, is on too
also_passed : (a b c : Mapping) → a.line ≡ c.line → IsAtOrBefore a b → IsAtOrBefore b c → (b.line ≡ c.line) × (b.column ≤ c.column)
also_passed a b c on (inl x) (inl y) = absurd (omega arith)
also_passed a b c on (inl x) (inr y) = absurd (omega (arith, y.0))
also_passed a b c on (inr x) (inl y) = absurd (omega (arith, x.0))
also_passed a b c on (inr x) (inr y) = y

-- ---- what is passed

module _ (line column : ℕ) where
  keeps : (m : Mapping) (xs : List Mapping) → is_on_line_at_or_before line column m ≡ true
      → filter (is_on_line_at_or_before line column) (m ∷ xs) ≡ m ∷ filter (is_on_line_at_or_before line column) xs
  keeps m xs is = cond-true (is_on_line_at_or_before line column m) _ _ is

  drops : (m : Mapping) (xs : List Mapping) → is_on_line_at_or_before line column m ≡ false
      → filter (is_on_line_at_or_before line column) (m ∷ xs) ≡ filter (is_on_line_at_or_before line column) xs
  drops m xs is = cond-false (is_on_line_at_or_before line column m) _ _ is

  -- the first of two that a position is not before does not own it
  one_less : (a b : Mapping) (xs : List Mapping) → IsAtOrBefore a b → IsAtOrBefore b (position_at line column)
      → owner_at (a ∷ b ∷ xs) line column ≡ owner_at (b ∷ xs) line column
  unfolding answer_at_or_before
  one_less a b xs order before = ⊎_elim
      (λ is.
      let on = passed_parts a line column is in
      let next = also_passed a b (position_at line column) on.0 order before in
      let next_is : is_on_line_at_or_before line column b ≡ true = is_passed b line column next.0 next.1 in
      ap (λ l. answered_source (answer_of_last (last_or None l)))
      (keeps a (b ∷ xs) is ∙ ap (λ l. a ∷ l) (keeps b xs next_is))
      ∙ ap (λ l. answered_source (answer_of_last (last_or None l))) (sym (keeps b xs next_is)))
      (λ is. ap (λ l. answered_source (answer_of_last (last_or None l))) (drops a (b ∷ xs) is))
      (cases_Bool (is_on_line_at_or_before line column a))

  -- none of the mappings in order from one on that stands past the position is passed there
  none_passed : (m : Mapping) (xs : List Mapping) → stands_before (position_at line column) m ≡ true → IsInOrder (m ∷ xs)
      → filter (is_on_line_at_or_before line column) (m ∷ xs) ≡ []
  none_passed m [] past order = drops m [] (is_not_passed m line column past)
  none_passed m (n ∷ xs) past order =
      drops m (n ∷ xs) (is_not_passed m line column past) ∙ none_passed n xs (more_past m n past order.0) order.1
    where
      more_past : (m n : Mapping) → stands_before (position_at line column) m ≡ true → IsAtOrBefore m n → stands_before (position_at line column) n ≡ true
      more_past m n past (inl below) = grind (arith, nat_tests)
      more_past m n past (inr same) = grind (arith, nat_tests, same.0, same.1)

  none_left : (next : Option Mapping) (last : Mapping) (rest : List Mapping) → IsInOrder (last ∷ with_next next rest) → IfNone next (rest ≡ [])
      → IfSome next (λ n. stands_before (position_at line column) n ≡ true)
      → filter (is_on_line_at_or_before line column) (with_next next rest) ≡ []
  none_left None last rest order none past = ap (filter (is_on_line_at_or_before line column)) none
  none_left (Some n) last rest order none past = none_passed n rest past order.1

  owned_by : (m : Mapping) → answered_source (answer_of m) ≡ source_of m
  owned_by m = with_origin m.origin refl
    where
      with_origin : (origin : Option Origin) → m.origin ≡ origin → answered_source (answer_of m) ≡ source_of m
      with_origin None is = rw is refl
      with_origin (Some origin) is = rw is refl

  -- the last that was passed owns the position, if it is on that line
  pub owner_is : (next : Option Mapping) (last : Mapping) (rest : List Mapping) → IsInOrder (last ∷ with_next next rest) → IfNone next (rest ≡ [])
      → IfSome next (λ n. stands_before (position_at line column) n ≡ true) → IsAtOrBefore last (position_at line column) → last.line ≡ line
      → owner_at (last ∷ with_next next rest) line column ≡ source_of last
  unfolding answer_at_or_before
  owner_is next last rest order none past (inl below) on = absurd (omega arith)
  owner_is next last rest order none past (inr same) on =
      ap (λ l. answered_source (answer_of_last (last_or None l)))
      (keeps last (with_next next rest) (is_passed last line column same.0 same.1) ∙ ap (λ l. last ∷ l) (none_left next last rest order none past))
      ∙ owned_by last

  pub no_owner : (next : Option Mapping) (last : Mapping) (rest : List Mapping) → IsInOrder (last ∷ with_next next rest) → IfNone next (rest ≡ [])
      → IfSome next (λ n. stands_before (position_at line column) n ≡ true) → (last.line ≡ line → ⊥)
      → owner_at (last ∷ with_next next rest) line column ≡ None
  unfolding answer_at_or_before
  no_owner next last rest order none past other =
      ap (λ l. answered_source (answer_of_last (last_or None l)))
      (drops last (with_next next rest) (on_other_line last line column other) ∙ none_left next last rest order none past)

  last_behind : (f : List Mapping) (o : Mapping) → source_of o ≡ None
      → answered_source (answer_of_last (last_or None (o ∷ f))) ≡ answered_source (answer_of_last (last_or None f))
  last_behind [] o none = owned_by o ∙ none
  last_behind (x ∷ f) o none = refl

  -- a mapping without an origin at the front owns as none does
  bare_first : (o : Mapping) (xs : List Mapping) → source_of o ≡ None → owner_at (o ∷ xs) line column ≡ owner_at xs line column
  unfolding answer_at_or_before
  bare_first o xs none = ⊎_elim
      (λ is. ap (λ l. answered_source (answer_of_last (last_or None l))) (keeps o xs is) ∙ last_behind (filter (is_on_line_at_or_before line column) xs) o none)
      (λ is. ap (λ l. answered_source (answer_of_last (last_or None l))) (drops o xs is))
      (cases_Bool (is_on_line_at_or_before line column o))

pub passes : (line column : ℕ) (a b : Mapping) (xs : List Mapping) → IsAtOrBefore a b → IsAtOrBefore b (position_at line column)
    → OwnsAlike line column (a ∷ b ∷ xs) (b ∷ xs)
passes line column a b xs order before l c later =
    one_less l c a b xs order (at_or_before b (position_at line column) (position_at l c) before later)

pub alike_on : (line column : ℕ) (a b c : List Mapping) → OwnsAlike line column a b → OwnsAlike line column b c → OwnsAlike line column a c
alike_on line column a b c x y l k later = x l k later ∙ y l k later

pub starts_alike : (mappings : List Mapping) → OwnsAlike 0 0 mappings (position_at 0 0 ∷ mappings)
starts_alike mappings l c later = sym (bare_first l c (position_at 0 0) mappings refl)

pub starts_in_order : (mappings : List Mapping) → IsInOrder mappings → IsInOrder (position_at 0 0 ∷ mappings)
starts_in_order [] order = tt
starts_in_order (m ∷ mappings) order = (first m, order)
  where
    zero_or : (n : ℕ) → (0 ≡ n) ⊎ (0 < n)
    zero_or zero = inl refl
    zero_or (suc n) = inr (omega arith)

    first : (m : Mapping) → IsAtOrBefore (position_at 0 0) m
    first m = ⊎_elim (λ same. inr (same, omega arith)) (λ past. inl past) (zero_or m.line)

pub rest_within : (sources names : ℕ) (m : Mapping) (xs : List Mapping) → All (IsWithin sources names) (m ∷ xs) → All (IsWithin sources names) xs
rest_within sources names m xs all k d inside = all (suc k) d (omega arith)

-- ---- a step of the walk

-- what the walk gave and has left is what it had
pub stepped : (given : Option Mapping) (old new : List Mapping) → MatchOption given ((old ≡ []) × (new ≡ [])) (λ x. old ≡ x ∷ new) → with_next given new ≡ old
stepped None old new step = step.1 ∙ sym step.0
stepped (Some x) old new step = sym step

pub nothing_left : (given : Option Mapping) (old new : List Mapping) → MatchOption given ((old ≡ []) × (new ≡ [])) (λ x. old ≡ x ∷ new) → IfNone given (new ≡ [])
nothing_left None old new step = step.1
nothing_left (Some x) old new step = tt

pub starts_within : (sources names : ℕ) (mappings : List Mapping) → All (IsWithin sources names) mappings → All (IsWithin sources names) (position_at 0 0 ∷ mappings)
starts_within sources names mappings all = All-cons (IsWithin sources names) (position_at 0 0) mappings
    (record { line = omega arith; column = omega arith; origin = tt }) all
