-- What is under a text among values in the order of their use, within a bound of bytes (this project's own): what is used stays
-- there, and what is put is there.
use Rattle.std.specs.Prelude.{◌≡◌, ◌⊎◌, ℕ, ◌-◌, Bool, true, false, List, [], ◌∷◌, Option, Some, None, nat_le, option_map}
use Rattle.std.proofs.Common.{cond, refl, sym, ap, subst, ◌∙◌, inl, inr}
use Rattle.std.proofs.lemmas.Slice.Eq.{bytes_eq-Decides}
use Rattle.std.specs.Str.{bytes_eq}
use Rattle.smap_locations.specs.ByText.{value_under}
use Rattle.smap_locations.specs.Laws.ByText.{same_text}
use Rattle.smap_kept.specs.Bounded.{entry_bytes, fitting, kept_within, known_under}
use Rattle.smap_kept.specs.InOrder.{in_front, used, without}
use Rattle.smap_kept.specs.declared.bounded.Counted.{Counted}

module _ {X : Type 0} where
  pub other_without : (other text : List ℕ) (entries : List (List ℕ × X)) → bytes_eq other text ≡ false
      → value_under other (without text entries) ≡ value_under other entries
  other_without other text [] apart = refl
  other_without other text (e ∷ entries) apart = go (bytes_eq text e.0) refl (other_without other text entries apart)
    where
      go : (b : Bool) → bytes_eq text e.0 ≡ b → value_under other (without text entries) ≡ value_under other entries
          → value_under other (cond b entries (e ∷ without text entries)) ≡ value_under other (e ∷ entries)
      go true same below =
          let off : bytes_eq other e.0 ≡ false = subst (λ t. bytes_eq other t ≡ false) ((bytes_eq-Decides text e.0).0 same) apart in
          sym (ap (λ b. cond b (Some e.1) (value_under other entries)) off)
      go false differ below = ap (λ o. cond (bytes_eq other e.0) (Some e.1) o) below

  -- what is used stays under its text
  pub same_used : (other text : List ℕ) (entries : List (List ℕ × X)) → value_under other (used text entries) ≡ value_under other entries
  same_used other text entries = go (value_under text entries) refl
    where
      at : (value : X) → value_under text entries ≡ Some value → (b : Bool) → bytes_eq other text ≡ b
          → cond b (Some value) (value_under other (without text entries)) ≡ value_under other entries
      at value is true same = sym (subst (λ t. value_under t entries ≡ Some value) (sym ((bytes_eq-Decides other text).0 same)) is)
      at value is false apart = other_without other text entries apart

      go : (found : Option X) → value_under text entries ≡ found → value_under other (in_front text found entries) ≡ value_under other entries
      go None is = refl
      go (Some value) is = at value is (bytes_eq other text) refl

module _ {T : Type 0} where
  -- what is left after one was taken out was there
  pub known_without : (text : List ℕ) (entries : List (List ℕ × Counted T)) (other : List ℕ) (value : T) → known_under text (without text entries) ≡ None
      → known_under other (without text entries) ≡ Some value → known_under other entries ≡ Some value
  known_without text entries other value gone has = go (bytes_eq other text) refl
    where
      go : (b : Bool) → bytes_eq other text ≡ b → known_under other entries ≡ Some value
      go true same =
          let none : known_under other (without text entries) ≡ None =
          subst (λ t. known_under t (without text entries) ≡ None) (sym ((bytes_eq-Decides other text).0 same)) gone in
          cc
      go false apart = ap (option_map (λ it. it.value)) (sym (other_without other text entries apart)) ∙ has

  pub found_fitting : (text : List ℕ) (room : ℕ) (entries : List (List ℕ × Counted T)) (one : Counted T) → value_under text (fitting room entries) ≡ Some one
      → value_under text entries ≡ Some one
  found_fitting text room [] one is = is
  found_fitting text room (e ∷ entries) one is =
      go (nat_le (entry_bytes e) room) (fitting (room - entry_bytes e) entries) (found_fitting text (room - entry_bytes e) entries one) is
    where
      at : (rest : Option (Counted T)) → (rest ≡ Some one → value_under text entries ≡ Some one) → (b : Bool) → cond b (Some e.1) rest ≡ Some one
          → cond b (Some e.1) (value_under text entries) ≡ Some one
      at rest below true is = is
      at rest below false is = below is

      go : (b : Bool) (rest : List (List ℕ × Counted T)) → (value_under text rest ≡ Some one → value_under text entries ≡ Some one)
          → value_under text (cond b (e ∷ rest) []) ≡ Some one → value_under text (e ∷ entries) ≡ Some one
      go true rest below is = at (value_under text rest) below (bytes_eq text e.0) is
      go false rest below is = cc

  -- ---- one comes first, and others go for it

  abbrev pub put_first : (most : ℕ) (text : List ℕ) → Counted T → List (List ℕ × Counted T) → List (List ℕ × Counted T)
  put_first most text one entries = kept_within most ((text, one) ∷ without text entries)

  pub found_first : (most : ℕ) (text : List ℕ) (one : Counted T) (entries : List (List ℕ × Counted T)) → value_under text (put_first most text one entries) ≡ Some one
  found_first most text one entries =
      ap (λ b. cond b (Some one) (value_under text (fitting (most - entry_bytes (text, one)) (without text entries)))) (same_text text)

  -- what is found is it, or was there under another text
  pub found_put : (most : ℕ) (text : List ℕ) (one : Counted T) (entries : List (List ℕ × Counted T)) (other : List ℕ) (there : Counted T)
      → value_under other (put_first most text one entries) ≡ Some there
      → cond (bytes_eq other text) (Some one) (value_under other entries) ≡ Some there
  found_put most text one entries other there is = go (bytes_eq other text) refl is
    where
      left : List (List ℕ × Counted T)
      left = fitting (most - entry_bytes (text, one)) (without text entries)

      go : (b : Bool) → bytes_eq other text ≡ b → cond b (Some one) (value_under other left) ≡ Some there → cond b (Some one) (value_under other entries) ≡ Some there
      go true same is = is
      go false apart is =
          sym (other_without other text entries apart) ∙ found_fitting other (most - entry_bytes (text, one)) (without text entries) there is

  -- the same of the values themselves
  pub known_put : (most : ℕ) (text : List ℕ) (one : Counted T) (entries : List (List ℕ × Counted T)) (other : List ℕ) (value : T)
      → known_under other (put_first most text one entries) ≡ Some value
      → ((other ≡ text) × (value ≡ one.value)) ⊎ (known_under other entries ≡ Some value)
  known_put most text one entries other value is = go (value_under other (put_first most text one entries)) refl is
    where
      at : (there : Counted T) → option_map (λ it. it.value) (Some there) ≡ Some value → (b : Bool) → bytes_eq other text ≡ b
          → cond b (Some one) (value_under other entries) ≡ Some there → ((other ≡ text) × (value ≡ one.value)) ⊎ (known_under other entries ≡ Some value)
      at there has true same found = inl ((bytes_eq-Decides other text).0 same, let it : one ≡ there = cc in sym (ap (λ it. it.value) it ∙ cc))
      at there has false apart found = inr (ap (option_map (λ it. it.value)) found ∙ has)

      go : (found : Option (Counted T)) → value_under other (put_first most text one entries) ≡ found → option_map (λ it. it.value) found ≡ Some value
          → ((other ≡ text) × (value ≡ one.value)) ⊎ (known_under other entries ≡ Some value)
      go None found has = cc
      go (Some there) found has = at there has (bytes_eq other text) refl (found_put most text one entries other there found)
