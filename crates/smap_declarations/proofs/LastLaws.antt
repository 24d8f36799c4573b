-- The last of a list that is of a name and not behind a place.
use Rattle.std.proofs.Common.{◌≡◌, ◌<◌, ℕ, zero, suc, Bool, true, false, cond, List, [], ◌∷◌, Option, Some, None, length, get_or, refl, ap, arith, ◌∙◌}
use Rattle.std.specs.Prelude.{slice_get, unwrap_or}
use Rattle.std.specs.List.{Contains}
use Rattle.smap_declarations.specs.Declarations.{Named}
use Rattle.smap_declarations.specs.Frames.{is_of, last_of, or_later}
use Rattle.smap_declarations.specs.declared.walk.DeclarationPlace.{DeclarationPlace}

module _ (name : List ℕ) (place : DeclarationPlace) where
  one_if : (b : Bool) (n : Named) → b ≡ false → cond b (Some n) None ≡ None
  one_if true n is = cc
  one_if false n is = refl

  not_true : (b : Bool) → (b ≡ true → ⊥) → b ≡ false
  not_true true never = absurd (never refl)
  not_true false _ = refl

  -- where none is, there is no last
  pub none_of : (all : List Named) → ((n : Named) → Contains all n → is_of name place n ≡ true → ⊥) → last_of name place all ≡ None
  unfolding last_of
  none_of [] none = refl
  none_of (n ∷ all) none =
      ap (or_later _) (none_of all (λ m among. none m (suc among.0, omega arith, among.2)))
      ∙ one_if (is_of name place n) n (not_true (is_of name place n) (none n (0, omega arith, refl)))

  -- one behind which there is none is the last
  pub last_at : (all : List Named) (i : ℕ) (d : Named) → slice_get all i ≡ Some d → is_of name place d ≡ true
      → ((m : Named) (k : ℕ) → i < k → k < length all → get_or all k m ≡ m → is_of name place m ≡ true → ⊥) → last_of name place all ≡ Some d
  unfolding last_of
  last_at [] i d there of none = cc
  last_at (n ∷ all) zero d there of none =
      let same : n ≡ d = ap (λ o. unwrap_or o n) there in
      ap (or_later _) (none_of all (λ m among is. none m (suc among.0) (omega arith) (omega arith) among.2 is))
      ∙ ap (λ b. cond b (Some n) None) (ap (is_of name place) same ∙ of) ∙ there
  last_at (n ∷ all) (suc i) d there of none =
      ap (or_later _) (last_at all i d there of (λ m k less inside is of_name. none m (suc k) (omega arith) (omega arith) is of_name))
