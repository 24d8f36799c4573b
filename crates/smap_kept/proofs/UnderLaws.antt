-- What is under a text among entries of which some went, or one came.
use Rattle.std.proofs.Common.{◌≡◌, ℕ, ◌-◌, Bool, true, false, cond, List, [], ◌∷◌, Option, Some, None, nat_le, refl, sym, ap, subst, ◌∙◌}
use Rattle.std.proofs.lemmas.Slice.Eq.{bytes_eq-Decides}
use Rattle.std.specs.Str.{bytes_eq}
use Rattle.smap_locations.specs.ByText.{value_under}
use Rattle.smap_kept.specs.Bounded.{entry_bytes, fitting}
use Rattle.smap_kept.specs.InOrder.{in_front, used, without}
use Rattle.smap_kept.specs.Laws.Under.{found_fitting, other_without, put_first}
use Rattle.smap_kept.specs.declared.bounded.Counted.{Counted}
use Rattle.smap_kept.proofs.Numbers.{passed}

-- what holds of two holds of either
either : {A : Type 0} (P : A → Type 0) (b : Bool) (one other : A) → P one → P other → P (cond b one other)
either P true one other holds rest = holds
either P false one other holds rest = rest

module _ {X : Type 0} where
  pub none_without : (other text : List ℕ) (entries : List (List ℕ × X)) → value_under other entries ≡ None → value_under other (without text entries) ≡ None
  none_without other text [] is = is
  none_without other text (e ∷ entries) is =
      let parts = passed (bytes_eq other e.0) e.1 (value_under other entries) is in
      either (λ l. value_under other l ≡ None) (bytes_eq text e.0) entries (e ∷ without text entries) parts.1
      (ap (λ b. cond b (Some e.1) (value_under other (without text entries))) parts.0 ∙ none_without other text entries parts.1)

  -- ---- each text once

  abbrev pub IsOnceUnder : List (List ℕ × X) → Type 0
  IsOnceUnder [] = Unit {0}
  IsOnceUnder (e ∷ entries) = (value_under e.0 entries ≡ None) × IsOnceUnder entries

  pub once_without : (text : List ℕ) (entries : List (List ℕ × X)) → IsOnceUnder entries → IsOnceUnder (without text entries)
  once_without text [] once = once
  once_without text (e ∷ entries) once =
      either IsOnceUnder (bytes_eq text e.0) entries (e ∷ without text entries) once.1
      (none_without e.0 text entries once.0, once_without text entries once.1)

  pub none_there : (text : List ℕ) (entries : List (List ℕ × X)) → IsOnceUnder entries → value_under text (without text entries) ≡ None
  none_there text [] once = refl
  none_there text (e ∷ entries) once = go (bytes_eq text e.0) refl (none_there text entries once.1)
    where
      go : (b : Bool) → bytes_eq text e.0 ≡ b → value_under text (without text entries) ≡ None
          → value_under text (cond b entries (e ∷ without text entries)) ≡ None
      go true same below = subst (λ t. value_under t entries ≡ None) (sym ((bytes_eq-Decides text e.0).0 same)) once.0
      go false differ below = ap (λ b. cond b (Some e.1) (value_under text (without text entries))) differ ∙ below

  pub once_used : (text : List ℕ) (entries : List (List ℕ × X)) → IsOnceUnder entries → IsOnceUnder (used text entries)
  once_used text entries once = go (value_under text entries)
    where
      go : (found : Option X) → IsOnceUnder (in_front text found entries)
      go None = once
      go (Some value) = (none_there text entries once, once_without text entries once)

  -- what is still there is under another text, and was there
  pub found_without : (other text : List ℕ) (entries : List (List ℕ × X)) (one : X) → IsOnceUnder entries → value_under other (without text entries) ≡ Some one
      → (bytes_eq other text ≡ false) × (value_under other entries ≡ Some one)
  found_without other text entries one once is = go (bytes_eq other text) refl
    where
      go : (b : Bool) → bytes_eq other text ≡ b → (b ≡ false) × (value_under other entries ≡ Some one)
      go true same =
          let none : value_under other (without text entries) ≡ None =
          subst (λ t. value_under t (without text entries) ≡ None) (sym ((bytes_eq-Decides other text).0 same)) (none_there text entries once) in
          cc
      go false apart = (refl, sym (other_without other text entries apart) ∙ is)

-- ---- as many as there is room for

module _ {T : Type 0} where
  none_fitting : (text : List ℕ) (room : ℕ) (entries : List (List ℕ × Counted T)) → value_under text entries ≡ None → value_under text (fitting room entries) ≡ None
  none_fitting text room entries none = go (value_under text (fitting room entries)) refl
    where
      go : (found : Option (Counted T)) → value_under text (fitting room entries) ≡ found → found ≡ None
      go None is = refl
      go (Some one) is = let there = found_fitting text room entries one is in cc

  pub once_fitting : (room : ℕ) (entries : List (List ℕ × Counted T)) → IsOnceUnder entries → IsOnceUnder (fitting room entries)
  once_fitting room [] once = once
  once_fitting room (e ∷ entries) once =
      either IsOnceUnder (nat_le (entry_bytes e) room) (e ∷ fitting (room - entry_bytes e) entries) []
      (none_fitting e.0 (room - entry_bytes e) entries once.0, once_fitting (room - entry_bytes e) entries once.1) tt

  -- ---- one comes first, and others go for it

  pub once_put : (most : ℕ) (text : List ℕ) (one : Counted T) (entries : List (List ℕ × Counted T)) → IsOnceUnder entries
      → IsOnceUnder (put_first most text one entries)
  once_put most text one entries once =
      let room = most - entry_bytes (text, one) in
      (none_fitting text room (without text entries) (none_there text entries once), once_fitting room (without text entries) (once_without text entries once))
