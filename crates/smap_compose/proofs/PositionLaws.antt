-- The first place of a list at which a test passes, step by step.
use Rattle.std.proofs.Common.{◌≡◌, ℕ, suc, ◌+◌, Bool, true, false, not, ◌||◌, cond, List, [], ◌∷◌, ◌++◌, length, map, Option, Some, None, refl, sym, ap, ◌∙◌, ltb, arith}
use Rattle.std.specs.Prelude.{option_map, slice_get}
use Rattle.std.specs.List.{list_any, position, position_or_len}
use Rattle.std.proofs.lemmas.Bool.{cond-true, cond-false, lt-ltb, le-ltb, ltb-true, ltb-false}

-- a place among the elements behind the first
abbrev pub one_further : Option ℕ → Option ℕ
one_further place = option_map (λ i. suc i) place

-- the list begins with this element
pub position_next : {X : Type 0} (p : X → Bool) (x : X) (xs : List X) → position p (x ∷ xs) ≡ cond (p x) (Some 0) (one_further (position p xs))
position_next p x xs = by (p x) (ltb (position_or_len p xs) (length xs)) refl
  where
    by : (now later : Bool) → ltb (position_or_len p xs) (length xs) ≡ later
        → cond (ltb (cond (not now) (1 + position_or_len p xs) 0) (suc (length xs))) (Some (cond (not now) (1 + position_or_len p xs) 0)) None
        ≡ cond now (Some 0) (one_further (cond later (Some (position_or_len p xs)) None))
    by true later is = cond-true _ _ _ (lt-ltb 0 (suc (length xs)) (omega arith))
    by false true is =
        let inside = ltb-true _ _ is in
        let same : 1 + position_or_len p xs ≡ suc (position_or_len p xs) = omega arith in
        cond-true _ _ _ (lt-ltb (1 + position_or_len p xs) (suc (length xs)) (omega arith)) ∙ ap Some same
    by false false is = let past = ltb-false _ _ is in cond-false _ _ _ (le-ltb (1 + position_or_len p xs) (suc (length xs)) (omega arith))

-- no element passes
pub position_none : {X : Type 0} (p : X → Bool) (xs : List X) → list_any p xs ≡ false → position p xs ≡ None
position_none p [] none = refl
position_none p (x ∷ xs) none = position_next p x xs ∙ by (position_none p xs) (p x) none
  where
    by : (list_any p xs ≡ false → position p xs ≡ None) → (now : Bool) → (now || list_any p xs) ≡ false → cond now (Some 0) (one_further (position p xs)) ≡ None
    by rest true none = absurd (cc)
    by rest false none = ap one_further (rest none)

-- one passes
pub position_some : {X : Type 0} (p : X → Bool) (xs : List X) → list_any p xs ≡ true → (i : ℕ) × (position p xs ≡ Some i)
position_some p [] one = absurd (cc)
position_some p (x ∷ xs) one = by (position_some p xs) (p x) one (position_next p x xs)
  where
    by : (list_any p xs ≡ true → (i : ℕ) × (position p xs ≡ Some i))
        → (now : Bool) → (now || list_any p xs) ≡ true → position p (x ∷ xs) ≡ cond now (Some 0) (one_further (position p xs))
        → (i : ℕ) × (position p (x ∷ xs) ≡ Some i)
    by rest true one is = (0, is)
    by rest false one is = let later = rest one in (suc later.0, is ∙ ap one_further later.1)

-- what is added behind a place that is found does not matter
pub position_stays : {X : Type 0} (p : X → Bool) (xs ys : List X) (i : ℕ) → position p xs ≡ Some i → position p (xs ++ ys) ≡ Some i
position_stays p [] ys i found = absurd (cc)
position_stays p (x ∷ xs) ys i found =
    by (later (position_stays p xs ys) (position p xs) refl) (p x) (sym (position_next p x xs) ∙ found) (position_next p x (xs ++ ys))
  where
    later : ((k : ℕ) → position p xs ≡ Some k → position p (xs ++ ys) ≡ Some k)
        → (place : Option ℕ) → position p xs ≡ place → one_further place ≡ Some i → one_further (position p (xs ++ ys)) ≡ Some i
    later rest None is found = absurd (cc)
    later rest (Some k) is found = ap one_further (rest k is) ∙ found

    by : (one_further (position p xs) ≡ Some i → one_further (position p (xs ++ ys)) ≡ Some i)
        → (now : Bool) → cond now (Some 0) (one_further (position p xs)) ≡ Some i
        → position p (x ∷ xs ++ ys) ≡ cond now (Some 0) (one_further (position p (xs ++ ys)))
        → position p (x ∷ xs ++ ys) ≡ Some i
    by rest true found is = is ∙ found
    by rest false found is = is ∙ rest found

-- none passes but what is added
pub position_pushed : {X : Type 0} (p : X → Bool) (xs : List X) (y : X) → position p xs ≡ None → p y ≡ true → position p (xs ++ y ∷ []) ≡ Some (length xs)
position_pushed p [] y none passes = position_next p y [] ∙ cond-true _ _ _ passes
position_pushed p (x ∷ xs) y none passes =
    by (later (λ is. position_pushed p xs y is passes) (position p xs) refl) (p x) (sym (position_next p x xs) ∙ none) (position_next p x (xs ++ y ∷ []))
  where
    later : (position p xs ≡ None → position p (xs ++ y ∷ []) ≡ Some (length xs))
        → (place : Option ℕ) → position p xs ≡ place → one_further place ≡ None
        → one_further (position p (xs ++ y ∷ [])) ≡ Some (suc (length xs))
    later rest None is none = ap one_further (rest is)
    later rest (Some k) is none = absurd (cc)

    by : (one_further (position p xs) ≡ None → one_further (position p (xs ++ y ∷ [])) ≡ Some (suc (length xs)))
        → (now : Bool) → cond now (Some 0) (one_further (position p xs)) ≡ None
        → position p (x ∷ xs ++ y ∷ []) ≡ cond now (Some 0) (one_further (position p (xs ++ y ∷ [])))
        → position p (x ∷ xs ++ y ∷ []) ≡ Some (suc (length xs))
    by rest true none is = absurd (cc)
    by rest false none is = is ∙ rest none

-- what is added does not pass
pub position_passed_over : {X : Type 0} (p : X → Bool) (xs : List X) (y : X) → p y ≡ false → position p (xs ++ y ∷ []) ≡ position p xs
position_passed_over p [] y fails = position_next p y [] ∙ cond-false _ _ _ fails
position_passed_over p (x ∷ xs) y fails =
    position_next p x (xs ++ y ∷ []) ∙ ap (λ place. cond (p x) (Some 0) (one_further place)) (position_passed_over p xs y fails) ∙ sym (position_next p x xs)

-- a test of what is seen of each element
pub position-map : {X Y : Type 0} (f : X → Y) (p : X → Bool) (q : Y → Bool) → ((x : X) → p x ≡ q (f x)) → (xs : List X) → position q (map f xs) ≡ position p xs
position-map f p q alike [] = refl
position-map f p q alike (x ∷ xs) =
    position_next q (f x) (map f xs) ∙ ap (λ place. cond (q (f x)) (Some 0) (one_further place)) (position-map f p q alike xs)
    ∙ ap (λ now. cond now (Some 0) (one_further (position p xs))) (sym (alike x)) ∙ sym (position_next p x xs)

-- the element at this place passes
abbrev pub PassesAt : {X : Type 0} → (X → Bool) → List X → ℕ → Type 0
PassesAt {X} p xs i = (x : X) × (slice_get xs i ≡ Some x) × (p x ≡ true)

pub position_passes : {X : Type 0} (p : X → Bool) (xs : List X) (i : ℕ) → position p xs ≡ Some i → PassesAt p xs i
position_passes p [] i found = absurd (cc)
position_passes p (x ∷ xs) i found = by (later (position_passes p xs) (position p xs) refl) (p x) refl (sym (position_next p x xs) ∙ found)
  where
    later : ((k : ℕ) → position p xs ≡ Some k → PassesAt p xs k)
        → (place : Option ℕ) → position p xs ≡ place → one_further place ≡ Some i → PassesAt p (x ∷ xs) i
    later rest None is found = absurd (cc)
    later rest (Some k) is found =
        let one = rest k is in
        let next : suc k ≡ i = cc in
        (one.0, ap (slice_get (x ∷ xs)) (sym next) ∙ one.1, one.2)

    by : (one_further (position p xs) ≡ Some i → PassesAt p (x ∷ xs) i)
        → (now : Bool) → p x ≡ now → cond now (Some 0) (one_further (position p xs)) ≡ Some i → PassesAt p (x ∷ xs) i
    by rest true passes found = let here : 0 ≡ i = cc in (x, ap (slice_get (x ∷ xs)) (sym here), passes)
    by rest false fails found = rest found
