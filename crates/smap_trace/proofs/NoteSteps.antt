-- What counting a naming in a note at an index comes to.
use Rattle.std.specs.Prelude.{◌≡◌, ◌≤◌, ◌<◌, ◌+◌, ◌||◌, ℕ, Bool, true, false, List, [], ◌∷◌, ◌++◌, Some, None, cond, length, map, nat_le, nat_lt, not, MatchBool, ⊤}
use Rattle.std.specs.List.{list_any, position_or_len}
use Rattle.std.specs.Prelude.{position}
use Rattle.std.proofs.Common.{ap, arith, get_or, refl, set, subst, suc, sym, ◌∙◌}
use Rattle.std.proofs.lemmas.Option.{cond_some}
use Rattle.smap_record.proofs.FileTextLaws.{none_chosen}
use Rattle.smap_trace.specs.UrlNotes.{NamingSeen, UrlNoteSeen}
use Rattle.smap_trace.specs.Private.Noting.{first_note, is_of, noting, with_naming, with_one}

one_lower : (m n : ℕ) → nat_lt m n ≡ nat_lt (1 + m) (suc n)
one_lower m n = grind arith

none_lower : (n : ℕ) → true ≡ nat_lt 0 (suc n)
none_lower n = grind arith

module _ {X : Type 0} (see : X → UrlNoteSeen) (naming : NamingSeen) where
  abbrev test : X → Bool
  test x = is_of naming.url (see x)

  set_at : (x : X) (xs : List X) (k : ℕ) (y d : X) (is : Bool) → k ≡ cond (not is) (1 + position_or_len test xs) 0
      → k < suc (length xs) → see y ≡ with_naming naming (see (get_or (x ∷ xs) k d))
      → ((j : ℕ) → j ≡ position_or_len test xs → j < length xs → see y ≡ with_naming naming (see (get_or xs j d)) → map see (set xs j y) ≡ with_one naming (map see xs))
      → map see (set (x ∷ xs) k y) ≡ cond is (with_naming naming (see x) ∷ map see xs) (see x ∷ with_one naming (map see xs))
  set_at x xs k y d true at few here more =
      subst (λ j. see y ≡ with_naming naming (see (get_or (x ∷ xs) j d)) → map see (set (x ∷ xs) j y) ≡ with_naming naming (see x) ∷ map see xs) (sym at)
      (λ h. λ i. h i ∷ map see xs) here
  set_at x xs k y d false at few here more =
      let next : k ≡ suc (position_or_len test xs) = omega arith in
      let within : position_or_len test xs < length xs = omega arith in
      subst (λ j. see y ≡ with_naming naming (see (get_or (x ∷ xs) j d)) → map see (set (x ∷ xs) j y) ≡ see x ∷ with_one naming (map see xs)) (sym next)
      (λ h. ap (λ l. see x ∷ l) (more (position_or_len test xs) refl within h)) here

  pub one_set : (xs : List X) (k : ℕ) (y d : X) → k ≡ position_or_len test xs → k < length xs → see y ≡ with_naming naming (see (get_or xs k d))
      → map see (set xs k y) ≡ with_one naming (map see xs)
  one_set [] k y d at few here = absurd (omega arith)
  one_set (x ∷ xs) k y d at few here = set_at x xs k y d (test x) at few here (λ j at few here. one_set xs j y d at few here)

  any_head : (is : Bool) (xs : List X) → list_any (is_of naming.url) (map see xs) ≡ nat_lt (position_or_len test xs) (length xs)
      → (is || list_any (is_of naming.url) (map see xs)) ≡ nat_lt (cond (not is) (1 + position_or_len test xs) 0) (suc (length xs))
  any_head true xs more = none_lower (length xs)
  any_head false xs more = more ∙ one_lower (position_or_len test xs) (length xs)

  any_at : (xs : List X) → list_any (is_of naming.url) (map see xs) ≡ nat_lt (position_or_len test xs) (length xs)
  any_at [] = refl
  any_at (x ∷ xs) = any_head (test x) xs (any_at xs)

  -- where there is a note of the URL, at this index
  pub noted_one : (xs : List X) (k : ℕ) → position test xs ≡ Some k → list_any (is_of naming.url) (map see xs) ≡ true
  noted_one xs k is = any_at xs ∙ (cond_some _ _ k is).0

  -- and where there is none
  pub noted_none : (xs : List X) → position test xs ≡ None → list_any (is_of naming.url) (map see xs) ≡ false
  noted_none xs is = any_at xs ∙ none_chosen _ _ is

  pub index_is : (xs : List X) (k : ℕ) → position test xs ≡ Some k → k ≡ position_or_len test xs
  index_is xs k is = sym (cond_some _ _ k is).1

-- memory ran out before, or this was noted
pub when_enough : (short : Bool) (P : Type 0) → P → MatchBool short ⊤ ((short ≡ false) × P)
when_enough true P is = tt
when_enough false P is = (refl, is)

-- ---- the notes after a naming

module _ (naming : NamingSeen) (notes : List UrlNoteSeen) where
  abbrev enough : List UrlNoteSeen
  enough = cond (nat_le 100 (length notes)) notes (notes ++ first_note naming ∷ [])

  pub noting_one : list_any (is_of naming.url) notes ≡ true → noting notes naming ≡ with_one naming notes
  noting_one is = ap (λ b. cond b (with_one naming notes) enough) is

  noting_other : (full : Bool) → list_any (is_of naming.url) notes ≡ false → nat_le 100 (length notes) ≡ full
      → noting notes naming ≡ cond full notes (notes ++ first_note naming ∷ [])
  noting_other full is room = ap (λ b. cond b (with_one naming notes) enough) is ∙ ap (λ b. cond b notes (notes ++ first_note naming ∷ [])) room

  pub noting_first : list_any (is_of naming.url) notes ≡ false → length notes < 100 → noting notes naming ≡ notes ++ first_note naming ∷ []
  noting_first is few = noting_other false is (grind arith)

  pub noting_full : list_any (is_of naming.url) notes ≡ false → 100 ≤ length notes → noting notes naming ≡ notes
  noting_full is many = noting_other true is (grind arith)

  pub added : (new : List UrlNoteSeen) (short was : Bool) → MatchBool short ⊤ ((was ≡ false) × (new ≡ notes ++ first_note naming ∷ []))
      → noting notes naming ≡ notes ++ first_note naming ∷ [] → MatchBool short ⊤ ((was ≡ false) × (new ≡ noting notes naming))
  added new true was is more = tt
  added new false was is more = (is.0, is.1 ∙ sym more)
