-- The first fault of some parts, for the loops that look for it.
use Rattle.std.proofs.Common.{◌≡◌, ℕ, ◌+◌, ◌<◌, ◌≤◌, List, [], ◌∷◌, length, drop, suc, zero, cond, Bool, true, false, Option, Some, None, refl, ap}
use Rattle.std.proofs.Common.{sym, ◌∙◌, arith, get_or, ⊎_elim, Bor}
use Rattle.std.specs.Prelude.{MatchOption}
use Rattle.std.specs.List.{HoldsAt, position_from, slice_get}
use Rattle.std.specs.Option.{option_or, option_copied}
use Rattle.std.specs.Bool.{then_some}
use Rattle.std.proofs.lemmas.Bool.{cases_Bool, cases_lt, cond-true, cond-false}
use Rattle.std.proofs.lemmas.List.{length-drop}
use Rattle.smap_index.specs.declared.part.Part.{Part}
use Rattle.std.proofs.lemmas.Option.{slice_get_past, slice_get-get_or}
use Rattle.smap_index.specs.Faults.{adjacent, is_overlapping}
use Rattle.smap_index.specs.Private.Walk.{is_overlapping_next}
use Rattle.smap_mappings.specs.Laws.Lists.{drop_at}

-- ---- places

-- where no element passes, the first does not, nor one after it
pub none_from : {X : Type 0} (test : X → Bool) (i : ℕ) (x : X) (xs : List X) → position_from test i (x ∷ xs) ≡ None
    → (test x ≡ false) × (position_from test (i + 1) xs ≡ None)
none_from test i x xs none =
    ⊎_elim
    (λ yes. absurd (cc (cond-true (test x) (Some i) (position_from test (i + 1) xs) yes, none)))
    (λ no. (no, sym (cond-false (test x) (Some i) (position_from test (i + 1) xs) no) ∙ none))
    (cases_Bool (test x))

-- one place more, which is the first that passes where none before it did
pub first_or : (before : Option ℕ) (passes : Bool) (i : ℕ) (after : Option ℕ)
    → option_or (option_or before (then_some passes i)) after ≡ option_or before (cond passes (Some i) after)
first_or (Some b) passes i after = refl
first_or None true i after = refl
first_or None false i after = refl

pub none_so_far : (before : Option ℕ) (passes : Bool) (i : ℕ) → option_or before (then_some passes i) ≡ None → (before ≡ None) × (passes ≡ false)
none_so_far (Some b) passes i none = absurd (cc)
none_so_far None true i none = absurd (cc)
none_so_far None false i none = (refl, refl)

-- an element within a list is the same whatever stands for those past it
get_or_same : (xs : List Part) (i : ℕ) (d : Part) → i < length xs → get_or xs i d ≡ get_or xs i (get_or xs i d)
get_or_same [] i d within = absurd (omega arith)
get_or_same (x ∷ xs) zero d within = refl
get_or_same (x ∷ xs) (suc i) d within = get_or_same xs i d (omega arith)

-- ---- adjacent parts

adjacent-short : (parts : List Part) → length parts ≤ 1 → adjacent parts ≡ []
adjacent-short [] few = refl
adjacent-short (a ∷ []) few = refl
adjacent-short (a ∷ b ∷ parts) few = absurd (omega arith)

module _ (test : Part × Part → Bool) (parts : List Part) where
  -- from the last part on there is no pair
  pub no_pair : (i n : ℕ) → length parts ≤ i + 1 → position_from test n (adjacent (drop i parts)) ≡ None
  no_pair i n few = ap (position_from test n) (adjacent-short (drop i parts) (omega (arith, length-drop i parts)))

  -- the first pair decides, or those after it
  pub next_pair : (i n : ℕ) (a b : Part) → n ≡ i + 1 → n < length parts → a ≡ get_or parts i a → b ≡ get_or parts n b
      → position_from test n (adjacent (drop i parts)) ≡ cond (test (a, b)) (Some n) (position_from test (n + 1) (adjacent (drop n parts)))
  next_pair i n a b next within is_a is_b =
      let at_n : drop n parts ≡ b ∷ drop (n + 1) parts = drop_at parts n b within is_b in
      let at_i : drop i parts ≡ a ∷ b ∷ drop (n + 1) parts =
      drop_at parts i a (omega arith) is_a ∙ ap (λ j. a ∷ drop j parts) (sym next) ∙ ap (λ rest. a ∷ rest) at_n in
      ap (λ rest. position_from test n (adjacent rest)) at_i
      ∙ ap (λ rest. cond (test (a, b)) (Some n) (position_from test (n + 1) (adjacent rest))) (sym at_n)

-- ---- a part and the next one

-- what `get` gives
pub copied_get : (got : Option (Bor Part)) (parts : List Part) (n : ℕ)
    → MatchOption got (length parts ≤ n) (λ x. (n < length parts) × HoldsAt (λ y. x.now ≡ y) parts n) → option_copied got ≡ slice_get parts n
copied_get None parts n past = sym (slice_get_past parts n past)
copied_get (Some x) parts n (within, is) = ap Some (is x.now) ∙ sym (slice_get-get_or parts n x.now within)

pub overlap_step : (parts : List Part) (i n : ℕ) (part : Part) → n ≡ i + 1 → i < length parts → part ≡ get_or parts i part
    → position_from is_overlapping n (adjacent (drop i parts))
    ≡ cond (is_overlapping_next part (slice_get parts n)) (Some n) (position_from is_overlapping (n + 1) (adjacent (drop n parts)))
overlap_step parts i n part next within is =
    let after = position_from is_overlapping (n + 1) (adjacent (drop n parts)) in
    ⊎_elim
    (λ (more : n < length parts).
    let b = get_or parts n part in
    next_pair is_overlapping parts i n part b next more is (get_or_same parts n part more)
    ∙ ap (λ o. cond (is_overlapping_next part o) (Some n) after) (sym (slice_get-get_or parts n part more)))
    (λ (last : length parts ≤ n).
    no_pair is_overlapping parts i n (omega arith) ∙ sym (no_pair is_overlapping parts n (n + 1) (omega arith))
    ∙ ap (λ o. cond (is_overlapping_next part o) (Some n) after) (sym (slice_get_past parts n last)))
    (cases_lt n (length parts))
