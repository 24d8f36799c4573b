-- The words with which two texts begin.
use Rattle.std.proofs.Common.{◌≡◌, ◌≢◌, ◌&&◌, ℕ, Bool, true, false, cond, List, [], ◌∷◌, sym, ap, ap₂, ◌∙◌, arith}
use Rattle.std.specs.Prelude.{nat_eq}
use Rattle.std.specs.Str.{bytes_eq}
use Rattle.std.proofs.lemmas.Bool.{eq-eqb}
use Rattle.std.proofs.lemmas.Bool.Decides.{nat_tests}
use Rattle.std.proofs.lemmas.List.Sums.{take_while-cons}
use Rattle.smap_fit.specs.Words.{begin_alike, first_of, is_word_character, word_in}

-- ---- a word character by character

pub no_word : (text : List ℕ) → text ≡ [] → word_in text ≡ []
no_word text none = ap word_in none

cons_case : (text : List ℕ) (c : ℕ) (behind : List ℕ) → text ≡ c ∷ behind → word_in text ≡ cond (is_word_character c) (c ∷ word_in behind) []
cons_case text c behind is = ap word_in is ∙ take_while-cons is_word_character c behind

pub word_goes_on : (text : List ℕ) (c : ℕ) (behind : List ℕ) → text ≡ c ∷ behind → is_word_character c ≡ true → word_in text ≡ c ∷ word_in behind
word_goes_on text c behind is word = cons_case text c behind is ∙ ap (λ b. cond b (c ∷ word_in behind) []) word

pub word_ends : (text : List ℕ) (c : ℕ) (behind : List ℕ) → text ≡ c ∷ behind → is_word_character c ≡ false → word_in text ≡ []
word_ends text c behind is word = cons_case text c behind is ∙ ap (λ b. cond b (c ∷ word_in behind) []) word

-- ---- two lists

pub both_go_on : (xs ys : List ℕ) (a b : ℕ) (rest_a rest_b : List ℕ) → xs ≡ a ∷ rest_a → ys ≡ b ∷ rest_b → a ≡ b → bytes_eq xs ys ≡ bytes_eq rest_a rest_b
both_go_on xs ys a b rest_a rest_b is_x is_y same = ap₂ bytes_eq is_x is_y ∙ ap (λ t. t && bytes_eq rest_a rest_b) (eq-eqb a b same)

pub both_differ : (xs ys : List ℕ) (a b : ℕ) (rest_a rest_b : List ℕ) → xs ≡ a ∷ rest_a → ys ≡ b ∷ rest_b → a ≢ b → bytes_eq xs ys ≡ false
both_differ xs ys a b rest_a rest_b is_x is_y other =
    let differ : nat_eq a b ≡ false = grind (arith, nat_tests) in
    ap₂ bytes_eq is_x is_y ∙ ap (λ t. t && bytes_eq rest_a rest_b) differ

pub second_ends : (xs ys : List ℕ) (a : ℕ) (rest_a : List ℕ) → xs ≡ a ∷ rest_a → ys ≡ [] → bytes_eq xs ys ≡ false
second_ends xs ys a rest_a is_x is_y = ap₂ bytes_eq is_x is_y

pub first_ends : (xs ys : List ℕ) (b : ℕ) (rest_b : List ℕ) → xs ≡ [] → ys ≡ b ∷ rest_b → bytes_eq xs ys ≡ false
first_ends xs ys b rest_b is_x is_y = ap₂ bytes_eq is_x is_y

pub both_end : (xs ys : List ℕ) → xs ≡ [] → ys ≡ [] → bytes_eq xs ys ≡ true
both_end xs ys is_x is_y = ap₂ bytes_eq is_x is_y

-- ---- what texts begin with

module _ (xs ys : List ℕ) (a b : ℕ) (rest_a rest_b : List ℕ) (is_x : xs ≡ a ∷ rest_a) (is_y : ys ≡ b ∷ rest_b) where
  firsts : begin_alike xs ys ≡ bytes_eq (first_of a rest_a) (first_of b rest_b)
  firsts = ap₂ begin_alike is_x is_y

  pub begin_otherwise : a ≢ b → false ≡ begin_alike xs ys
  begin_otherwise other = sym (firsts ∙ apart (is_word_character a) (is_word_character b))
    where
      differ : nat_eq a b ≡ false
      differ = grind (arith, nat_tests)

      apart : (p q : Bool) → bytes_eq (cond p (a ∷ word_in rest_a) (a ∷ [])) (cond q (b ∷ word_in rest_b) (b ∷ [])) ≡ false
      apart true true = ap (λ t. t && bytes_eq (word_in rest_a) (word_in rest_b)) differ
      apart true false = ap (λ t. t && bytes_eq (word_in rest_a) []) differ
      apart false true = ap (λ t. t && bytes_eq [] (word_in rest_b)) differ
      apart false false = ap (λ t. t && true) differ

  begin_so : a ≡ b → begin_alike xs ys ≡ cond (is_word_character a) (bytes_eq (word_in rest_a) (word_in rest_b)) true
  begin_so same = firsts ∙ along (is_word_character a) (is_word_character b) (ap is_word_character same)
    where
      along : (p q : Bool) → p ≡ q → bytes_eq (cond p (a ∷ word_in rest_a) (a ∷ [])) (cond q (b ∷ word_in rest_b) (b ∷ [])) ≡ cond p (bytes_eq (word_in rest_a) (word_in rest_b)) true
      along true true is = ap (λ t. t && bytes_eq (word_in rest_a) (word_in rest_b)) (eq-eqb a b same)
      along true false is = absurd (cc)
      along false true is = absurd (cc)
      along false false is = ap (λ t. t && true) (eq-eqb a b same)

  pub begin_with_character : a ≡ b → is_word_character a ≡ false → true ≡ begin_alike xs ys
  begin_with_character same word = sym (begin_so same ∙ ap (λ p. cond p (bytes_eq (word_in rest_a) (word_in rest_b)) true) word)

  pub begin_with_word : a ≡ b → is_word_character a ≡ true → bytes_eq (word_in rest_a) (word_in rest_b) ≡ begin_alike xs ys
  begin_with_word same word = sym (begin_so same ∙ ap (λ p. cond p (bytes_eq (word_in rest_a) (word_in rest_b)) true) word)
