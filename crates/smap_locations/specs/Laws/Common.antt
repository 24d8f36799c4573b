-- Laws of what texts begin with in common: each of them begins with it.
use Rattle.std.specs.Prelude.{◌≡◌, ◌==◌, ℕ, Bool, true, false, List, [], ◌∷◌, ◌++◌, Option, Some, None, IsSomeAnd, if◌then◌else◌, is_some, map}
use Rattle.std.specs.Str.{bytes_eq}
use Rattle.std.proofs.Common.{refl, sym, ap, subst, append_assoc, append-nil, ◌∙◌}
use Rattle.std.proofs.lemmas.Bool.{eqb-true}
use Rattle.std.proofs.lemmas.Slice.Eq.{bytes_eq-Decides}
use Rattle.smap_locations.specs.ByText.{all_seen, value_under}
use Rattle.smap_locations.specs.Common.{IsFront, common_after, common_front, common_of, common_with}

whole_is : (text : List ℕ) → IsFront text text
whole_is text = record { rest = []; whole = sym (append-nil text) }

-- what begins a text's beginning begins the text
pub front_of_front : (one other text : List ℕ) → IsFront one other → IsFront other text → IsFront one text
front_of_front one other text first second = record {
  rest = first.rest ++ second.rest;
  whole = second.whole ∙ ap (λ l. l ++ second.rest) first.whole ∙ append_assoc one first.rest second.rest;
}

-- both begin with what both begin with
pub begins_one : (one other : List ℕ) → IsFront (common_front one other) one
begins_one [] other = record { rest = []; whole = refl }
begins_one (x ∷ one) [] = record { rest = x ∷ one; whole = refl }
begins_one (x ∷ one) (y ∷ other) = go (x == y) (begins_one one other)
  where
    go : (same : Bool) → IsFront (common_front one other) one → IsFront (if same then x ∷ common_front one other else []) (x ∷ one)
    go true front = record { rest = front.rest; whole = ap (λ l. x ∷ l) front.whole }
    go false front = record { rest = x ∷ one; whole = refl }

pub begins_other : (one other : List ℕ) → IsFront (common_front one other) other
begins_other [] other = record { rest = other; whole = refl }
begins_other (x ∷ one) [] = record { rest = []; whole = refl }
begins_other (x ∷ one) (y ∷ other) = go (x == y) (eqb-true x y) (begins_other one other)
  where
    go : (same : Bool) → (same ≡ true → x ≡ y) → IsFront (common_front one other) other
        → IsFront (if same then x ∷ common_front one other else []) (y ∷ other)
    go true is front = record { rest = front.rest; whole = ap (λ z. z ∷ other) (sym (is refl)) ∙ ap (λ l. x ∷ l) front.whole }
    go false is front = record { rest = y ∷ other; whole = refl }

begins_last : (common : Option (List ℕ)) (text : List ℕ) → IsFront (common_with common text) text
begins_last None text = whole_is text
begins_last (Some common) text = begins_other common text

-- what is found begins what was before
begins_before : (texts : List (List ℕ)) (common found : List ℕ) → common_after (Some common) texts ≡ Some found → IsFront found common
begins_before [] common found is = let same : common ≡ found = cc in subst (λ l. IsFront l common) same (whole_is common)
begins_before (text ∷ texts) common found is =
    front_of_front found (common_front common text) common (begins_before texts (common_front common text) found is) (begins_one common text)

some_found : (texts : List (List ℕ)) (common : List ℕ) → common_after (Some common) texts ≡ None → ⊥
some_found [] common none = cc
some_found (text ∷ texts) common none = some_found texts (common_front common text) none

module _ {T : Type 0} where
  abbrev texts : List (List ℕ × T) → List (List ℕ)
  texts pairs = map (λ e. e.0) pairs

  begins_found : (pairs : List (List ℕ × T)) (common : Option (List ℕ)) (found text : List ℕ) → common_after common (texts pairs) ≡ Some found
      → is_some (value_under text pairs) ≡ true → IsFront found text
  begins_found [] common found text is some = cc
  begins_found (e ∷ pairs) common found text is some =
      go (bytes_eq text e.0) (bytes_eq-Decides text e.0).0 (begins_found pairs (Some (common_with common e.0)) found text is) some
    where
      go : (same : Bool) → (same ≡ true → text ≡ e.0) → (is_some (value_under text pairs) ≡ true → IsFront found text)
          → is_some (if same then Some e.1 else value_under text pairs) ≡ true → IsFront found text
      go true here below some =
          front_of_front found (common_with common e.0) text (begins_before (texts pairs) (common_with common e.0) found is)
          (subst (λ t. IsFront (common_with common e.0) t) (sym (here refl)) (begins_last common e.0))
      go false here below some = below some

  none_found : (pairs : List (List ℕ × T)) (text : List ℕ) → common_of (texts pairs) ≡ None → is_some (value_under text pairs) ≡ true → ⊥
  none_found [] text none some = cc
  none_found (e ∷ pairs) text none some = some_found (texts pairs) e.0 none

  -- a text that has a value begins with what all begin with
  pub begins_common : (pairs : List (List ℕ × T)) (text : List ℕ) → is_some (value_under text pairs) ≡ true
      → IsSomeAnd (common_of (map (λ e. e.0) pairs)) (λ common. IsFront common text)
  begins_common pairs text some = go (common_of (texts pairs)) refl
    where
      go : (common : Option (List ℕ)) → common_of (texts pairs) ≡ common → IsSomeAnd common (λ common. IsFront common text)
      go None none = none_found pairs text none some
      go (Some found) is = begins_found pairs None found text is some

-- the texts as they are seen
module _ {T U : Type 0} (see : T → U) where
  same_texts : (pairs : List (List ℕ × T)) → map (λ e. e.0) pairs ≡ map (λ e. e.0) (all_seen see pairs)
  same_texts [] = refl
  same_texts (e ∷ pairs) = ap (λ texts. e.0 ∷ texts) (same_texts pairs)

  pub common_seen : (pairs : List (List ℕ × T)) (seen : List (List ℕ × U)) → all_seen see pairs ≡ seen
      → common_of (map (λ e. e.0) pairs) ≡ common_of (map (λ e. e.0) seen)
  common_seen pairs seen view = ap common_of (same_texts pairs ∙ ap (map (λ e. e.0)) view)
