-- Laws of names that contain a text.
use Rattle.std.proofs.Common.{◌≡◌, ◌==◌, ◌||◌, ◌↔◌, ℕ, Bool, true, false, List, [], ◌∷◌, ◌++◌, None, MatchBool, drop, length, map, refl, sym, ap, arith, inl, inr}
use Rattle.std.proofs.Common.{ne_eqb, ◌⊎◌}
use Rattle.std.proofs.lemmas.Bool.{false_from_ne_true, or_left, or_right, or_cases}
use Rattle.std.proofs.lemmas.Bool.Decides.{Decides-eqb}
use Rattle.std.proofs.lemmas.Slice.Eq.{starts_is}
use Rattle.std.proofs.lemmas.Str.Pattern.{contains_text}
use Rattle.std.specs.Bool.{nat_eq}
use Rattle.std.specs.List.{list_any, starts_with}
use Rattle.std.specs.Str.Iter.{HasSubslice}
use Rattle.std.specs.Str.Pattern.{FindsText, HasMatch}
use Rattle.smap_trace.specs.Hiding.{contains}

-- ---- a text stands somewhere in a name

empty_is : (text : List ℕ) → (length text == 0) ≡ true → [] ≡ text ++ []
empty_is [] is = refl
empty_is (byte ∷ text) is = let no : (length (byte ∷ text) == 0) ≡ false = ne_eqb (length (byte ∷ text)) 0 (λ e. absurd (omega (arith, e))) in cc

none_before : (text after : List ℕ) → [] ≡ text ++ after → (length text == 0) ≡ true
none_before [] after is = refl
none_before (byte ∷ text) after is = cc

module _ (text : List ℕ) where
  within_one : (byte : ℕ) (name : List ℕ) → (contains name text ≡ true → HasSubslice name text)
      → (starts_with nat_eq (byte ∷ name) text ≡ true) ⊎ (contains name text ≡ true) → HasSubslice (byte ∷ name) text
  within_one byte name more (inl first) = ([], drop (length text) (byte ∷ name), (starts_is Decides-eqb (byte ∷ name) text _ refl).0 first)
  within_one byte name more (inr later) = let at = more later in (byte ∷ at.0, at.1, ap (λ l. byte ∷ l) at.2)

  within : (name : List ℕ) → contains name text ≡ true → HasSubslice name text
  within [] is = ([], [], empty_is text is)
  within (byte ∷ name) is = within_one byte name (within name) (or_cases (starts_with nat_eq (byte ∷ name) text) (contains name text) is)

  stands : (front name after : List ℕ) → name ≡ front ++ (text ++ after) → contains name text ≡ true
  stands [] [] after is = none_before text after is
  stands [] (byte ∷ name) after is =
      or_left (starts_with nat_eq (byte ∷ name) text) (contains name text) ((starts_is Decides-eqb (byte ∷ name) text _ refl).1 after is)
  stands (x ∷ front) [] after is = cc
  stands (x ∷ front) (byte ∷ name) after is =
      let more : name ≡ front ++ (text ++ after) = cc in
      or_right (starts_with nat_eq (byte ∷ name) text) (contains name text) (stands front name after more)

same_test : (found : Bool) (name text : List ℕ) → (found ≡ true) ↔ HasSubslice name text → found ≡ contains name text
same_test true name text is = let at = is.0 refl in sym (stands text at.0 name at.1 at.2)
same_test false name text is =
    sym (false_from_ne_true (contains name text) (λ has. let no : false ≡ true = is.1 (within text name has) in cc))

-- the test for it
pub contains_is : (found : Bool) (name text : List ℕ) → MatchBool found (HasMatch (FindsText text) name) (FindsText text name None)
    → found ≡ contains name text
contains_is found name text is = same_test found name text (contains_text found text name is)

-- ---- one of some texts

pub any_map : {A : Type 0} (test : List ℕ → Bool) (change : A → List ℕ) (all : List A) → list_any (λ x. test (change x)) all ≡ list_any test (map change all)
any_map test change [] = refl
any_map test change (x ∷ all) = ap (λ b. test (change x) || b) (any_map test change all)
