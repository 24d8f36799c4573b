-- Where the cuts are, and that there is no other.
use Rattle.std.proofs.Common.{◌≡◌, ◌≢◌, ◌==◌, ◌&&◌, ◌+◌, ◌-◌, ◌<◌, ℕ, true, false, zero, suc, inl, inr, List, [], ◌∷◌, ◌++◌, length, get_or, take, drop}
use Rattle.std.proofs.Common.{Option, Some}
use Rattle.std.proofs.Common.{None, option_map, refl, sym, ap, ◌∙◌, arith, length-take}
use Rattle.std.specs.List.{list_any}
use Rattle.std.specs.Option.{MatchOption}
use Rattle.std.proofs.lemmas.Bool.{or_parts, or_from, cond-true, cond-false, cond_both, eqb-true, eq-eqb, ne_eqb, and_parts, and_from}
use Rattle.std.proofs.lemmas.Bool.{false_from_ne_true, both_ways, and_left, and_right, cases_lt}
use Rattle.std.proofs.lemmas.List.{drop_more, get_or-drop, get_or-take, take-append-drop}
use Rattle.smap_trace.specs.Cuts.{put_before, later_cut, cut_at_first_byte, cut_at_last_byte, cut_at_call, without_last}

-- ---- the last of these bytes

-- the byte is not in the list
abbrev pub is_without : ℕ → List ℕ → Type 0
is_without byte xs = list_any (λ x. x == byte) xs ≡ false

pub no_cut : (byte : ℕ) (xs : List ℕ) → is_without byte xs → cut_at_last_byte byte xs ≡ None
no_cut byte [] none = refl
no_cut byte (x ∷ xs) none =
    let parts = or_parts (x == byte) (list_any (λ y. y == byte) xs) none in
    ap (later_cut byte x xs) (no_cut byte xs parts.1) ∙ cond-false (x == byte) (Some ([], xs)) None parts.0

pub last_cut : (byte : ℕ) (front rest : List ℕ) → is_without byte rest → cut_at_last_byte byte (front ++ byte ∷ rest) ≡ Some (front, rest)
last_cut byte [] rest none = ap (later_cut byte byte rest) (no_cut byte rest none) ∙ cond-true (byte == byte) (Some ([], rest)) None (eq-eqb byte byte refl)
last_cut byte (x ∷ front) rest none = ap (later_cut byte x (front ++ byte ∷ rest)) (last_cut byte front rest none)

-- what a cut at the last byte says
abbrev pub IsLastCut : ℕ → List ℕ → List ℕ × List ℕ → Type 0
IsLastCut byte xs cut = (xs ≡ cut.0 ++ byte ∷ cut.1) × is_without byte cut.1

later_step : (byte x : ℕ) (xs : List ℕ) (cut : Option (List ℕ × List ℕ)) → MatchOption cut (is_without byte xs) (IsLastCut byte xs)
    → MatchOption (later_cut byte x xs cut) (is_without byte (x ∷ xs)) (IsLastCut byte (x ∷ xs))
later_step byte x xs (Some (front, rest)) is = (ap (λ l. x ∷ l) is.0, is.1)
later_step byte x xs None is =
    cond_both (x == byte) (Some ([], xs)) None (λ o. MatchOption o (is_without byte (x ∷ xs)) (IsLastCut byte (x ∷ xs)))
    (λ same. (ap (λ y. y ∷ xs) (eqb-true x byte same), is)) (λ other. or_from (x == byte) _ other is)

pub cut_is_last : (byte : ℕ) (xs : List ℕ) → MatchOption (cut_at_last_byte byte xs) (is_without byte xs) (IsLastCut byte xs)
cut_is_last byte [] = refl
cut_is_last byte (x ∷ xs) = later_step byte x xs (cut_at_last_byte byte xs) (cut_is_last byte xs)

-- ---- the first of these bytes

pub no_first : (byte : ℕ) (xs : List ℕ) → is_without byte xs → cut_at_first_byte byte xs ≡ None
no_first byte [] none = refl
no_first byte (x ∷ xs) none =
    let parts = or_parts (x == byte) (list_any (λ y. y == byte) xs) none in
    cond-false (x == byte) (Some ([], xs)) (option_map (put_before x) (cut_at_first_byte byte xs)) parts.0
    ∙ ap (option_map (put_before x)) (no_first byte xs parts.1)

pub first_cut : (byte : ℕ) (front rest : List ℕ) → is_without byte front → cut_at_first_byte byte (front ++ byte ∷ rest) ≡ Some (front, rest)
first_cut byte [] rest none = cond-true (byte == byte) (Some ([], rest)) (option_map (put_before byte) (cut_at_first_byte byte rest)) (eq-eqb byte byte refl)
first_cut byte (x ∷ front) rest none =
    let parts = or_parts (x == byte) (list_any (λ y. y == byte) front) none in
    cond-false (x == byte) (Some ([], front ++ byte ∷ rest)) (option_map (put_before x) (cut_at_first_byte byte (front ++ byte ∷ rest))) parts.0
    ∙ ap (option_map (put_before x)) (first_cut byte front rest parts.1)

-- what a cut at the first byte says
abbrev pub IsFirstCut : ℕ → List ℕ → List ℕ × List ℕ → Type 0
IsFirstCut byte xs cut = (xs ≡ cut.0 ++ byte ∷ cut.1) × is_without byte cut.0

first_step : (byte x : ℕ) (xs : List ℕ) (cut : Option (List ℕ × List ℕ)) → (x == byte) ≡ false → MatchOption cut (is_without byte xs) (IsFirstCut byte xs) →
    MatchOption (option_map (put_before x) cut) (is_without byte (x ∷ xs)) (IsFirstCut byte (x ∷ xs))
first_step byte x xs None other is = or_from (x == byte) _ other is
first_step byte x xs (Some (front, rest)) other is = (ap (λ l. x ∷ l) is.0, or_from (x == byte) _ other is.1)

pub cut_is_first : (byte : ℕ) (xs : List ℕ) → MatchOption (cut_at_first_byte byte xs) (is_without byte xs) (IsFirstCut byte xs)
cut_is_first byte [] = refl
cut_is_first byte (x ∷ xs) =
    cond_both (x == byte) (Some ([], xs)) (option_map (put_before x) (cut_at_first_byte byte xs))
    (λ o. MatchOption o (is_without byte (x ∷ xs)) (IsFirstCut byte (x ∷ xs)))
    (λ same. (ap (λ y. y ∷ xs) (eqb-true x byte same), refl))
    (λ other. first_step byte x xs (cut_at_first_byte byte xs) other (cut_is_first byte xs))

-- where a search for the byte finds it
pub without_anywhere : (byte : ℕ) (text : List ℕ) → ((k : ℕ) → k < length text → (get_or text k 0 == byte) ≡ true → ⊥) → is_without byte text
without_anywhere byte [] none = refl
without_anywhere byte (x ∷ text) none =
    or_from (x == byte) _ (false_from_ne_true (x == byte) (none 0 (omega arith)))
    (without_anywhere byte text (λ k within. none (suc k) (omega (arith, within))))

pub found_at : (byte : ℕ) (text : List ℕ) (k : ℕ) → k < length text → ((i : ℕ) → i < k → (get_or text i 0 == byte) ≡ true → ⊥)
    → (get_or text k 0 == byte) ≡ true →
    cut_at_first_byte byte text ≡ Some (take k text, drop (k + 1) text)
found_at byte text k within none here =
    let whole : text ≡ take k text ++ byte ∷ drop (k + 1) text =
    sym (take-append-drop k text) ∙ ap (λ l. take k text ++ l) (drop_more text k 0 within ∙ ap (λ b. b ∷ drop (k + 1) text) (eqb-true _ byte here)) in
    let front : is_without byte (take k text) = without_anywhere byte (take k text) (λ i below there.
    let inside : i < k = omega (arith, below, length-take k text) in
    none i inside (ap (λ b. b == byte) (sym (get_or-take k text i 0 inside)) ∙ there)) in
    ap (cut_at_first_byte byte) whole ∙ first_cut byte (take k text) (drop (k + 1) text) front

-- ---- the first ` (`

-- no ` (` stands in the text
abbrev pub HasNoCall : List ℕ → Type 0
HasNoCall text = (before after : List ℕ) → text ≢ before ++ 32 ∷ 40 ∷ after

shorter : (x : ℕ) (text : List ℕ) → HasNoCall (x ∷ text) → HasNoCall text
shorter x text none = λ before after is. none (x ∷ before) after (ap (λ l. x ∷ l) is)

pub first_call : (function rest : List ℕ) → HasNoCall function → cut_at_call (function ++ 32 ∷ 40 ∷ rest) ≡ Some (function, rest)
first_call [] rest none = refl
first_call (x ∷ []) rest none = cond-false (x == 32 && false) _ _ (grind arith)
first_call (x ∷ y ∷ function) rest none =
    cond-false (x == 32 && y == 40) _ _ (false_from_ne_true _ (λ call.
    let parts = and_parts (x == 32) (y == 40) call in
    none [] function (λ i. eqb-true x 32 parts.0 i ∷ eqb-true y 40 parts.1 i ∷ function)))
    ∙ ap (option_map (put_before x)) (first_call (y ∷ function) rest (shorter x (y ∷ function) none))

-- what a cut at the first ` (` says
abbrev pub IsFirstCall : List ℕ → List ℕ × List ℕ → Type 0
IsFirstCall text cut = (text ≡ cut.0 ++ 32 ∷ 40 ∷ cut.1) × HasNoCall cut.0

none_in_empty : HasNoCall []
none_in_empty [] after is = cc
none_in_empty (x ∷ before) after is = cc

-- a text without ` (` stays so after a byte that begins none with it
none_longer : (x : ℕ) (y : ℕ) (rest front tail : List ℕ) → (x == 32 && y == 40) ≡ false → y ∷ rest ≡ front ++ 32 ∷ 40 ∷ tail
    → HasNoCall front → HasNoCall (x ∷ front)
none_longer x y rest front tail off is none (z ∷ before) after e = none before after (cc)
none_longer x y rest [] tail off is none [] after e = cc
none_longer x y rest (w ∷ front) tail off is none [] after e =
    let one : x ≡ 32 = cc in
    let two : y ≡ 40 = cc in
    both_ways _ off (and_from (x == 32) (y == 40) (eq-eqb x 32 one) (eq-eqb y 40 two))

call_step : (x y : ℕ) (rest : List ℕ) (cut : Option (List ℕ × List ℕ)) → (x == 32 && y == 40) ≡ false
    → MatchOption cut (Unit {0}) (IsFirstCall (y ∷ rest)) → MatchOption (option_map (put_before x) cut) (Unit {0}) (IsFirstCall (x ∷ y ∷ rest))
call_step x y rest None off is = tt
call_step x y rest (Some (front, tail)) off is = (ap (λ l. x ∷ l) is.0, none_longer x y rest front tail off is.0 is.1)

pub call_is_first : (text : List ℕ) → MatchOption (cut_at_call text) (Unit {0}) (IsFirstCall text)
call_is_first [] = tt
call_is_first (x ∷ []) = tt
call_is_first (x ∷ y ∷ rest) =
    cond_both (x == 32 && y == 40) (Some ([], rest)) (option_map (put_before x) (cut_at_call (y ∷ rest)))
    (λ o. MatchOption o (Unit {0}) (IsFirstCall (x ∷ y ∷ rest)))
    (λ call. let parts = and_parts (x == 32) (y == 40) call in (λ i. eqb-true x 32 parts.0 i ∷ eqb-true y 40 parts.1 i ∷ rest, none_in_empty))
    (λ off. call_step x y rest (cut_at_call (y ∷ rest)) off (call_is_first (y ∷ rest)))

-- no ` (` begins at a place
abbrev pub NoCallAt : List ℕ → ℕ → Type 0
NoCallAt text i = (get_or text i 0 == 32 && get_or text (suc i) 0 == 40) ≡ false

-- no ` (` ends before a place
abbrev pub NoCallBefore : List ℕ → ℕ → Type 0
NoCallBefore text place = (i : ℕ) → i + 1 < place → NoCallAt text i

pub call_nowhere : (text : List ℕ) → NoCallBefore text (length text) → cut_at_call text ≡ None
call_nowhere [] none = refl
call_nowhere (x ∷ []) none = refl
call_nowhere (x ∷ y ∷ rest) none =
    cond-false (x == 32 && y == 40) _ _ (none 0 (omega arith))
    ∙ ap (option_map (put_before x)) (call_nowhere (y ∷ rest) (λ i within. none (suc i) (omega (arith, within))))

call_at : (text : List ℕ) (k : ℕ) → suc k < length text → ((i : ℕ) → i < k → NoCallAt text i) → get_or text k 0 ≡ 32 → get_or text (suc k) 0 ≡ 40
    → cut_at_call text ≡ Some (take k text, drop (suc (suc k)) text)
call_at [] k within none space opening = absurd (omega arith)
call_at (x ∷ []) k within none space opening = absurd (omega arith)
call_at (x ∷ y ∷ rest) zero within none space opening =
    cond-true (x == 32 && y == 40) _ _ (and_from _ _ (eq-eqb x 32 space) (eq-eqb y 40 opening))
call_at (x ∷ y ∷ rest) (suc k) within none space opening =
    cond-false (x == 32 && y == 40) _ _ (none 0 (omega arith))
    ∙ ap (option_map (put_before x)) (call_at (y ∷ rest) k (omega (arith, within)) (λ i below. none (suc i) (omega (arith, below))) space opening)

-- the first ` (`, whose `(` stands at a place
pub call_here : (text : List ℕ) (place : ℕ) → 0 < place → place < length text → NoCallBefore text place
    → get_or text (place - 1) 0 ≡ 32 → get_or text place 0 ≡ 40 → cut_at_call text ≡ Some (take (place - 1) text, drop (place + 1) text)
call_here text place some within none space opening =
    let next : suc (place - 1) ≡ place = omega (arith, some) in
    let after : suc (suc (place - 1)) ≡ place + 1 = omega (arith, some) in
    call_at text (place - 1) (omega (arith, within, some)) (λ i below. none i (omega (arith, below))) space
    (ap (λ k. get_or text k 0) next ∙ opening)
    ∙ ap (λ k. Some (take (place - 1) text, drop k text)) after

-- where no `(` stands further on, no ` (` ends there
pub call_further : (text : List ℕ) (place further : ℕ) → NoCallBefore text place →
    ((i : ℕ) → i < further → (get_or (drop place text) i 0 == 40) ≡ true → ⊥) → NoCallBefore text (place + further)
call_further text place further before none i below = elim (cases_lt (i + 1) place) [
  | inl early ↦ before i early
  | inr late ↦
      let same : place + (i + 1 - place) ≡ suc i = omega (arith, late) in
      and_right (get_or text i 0 == 32) _ (false_from_ne_true _ (λ is. none (i + 1 - place) (omega (arith, late, below))
      (ap (λ b. b == 40) (get_or-drop place text (i + 1 - place) 0 ∙ ap (λ k. get_or text k 0) same) ∙ is)))
]

-- a `(` that no space stands before ends none
pub call_passed : (text : List ℕ) (place : ℕ) → NoCallBefore text place → (0 < place → (get_or text (place - 1) 0 == 32) ≡ false)
    → NoCallBefore text (place + 1)
call_passed text place before other i below = elim (cases_lt (i + 1) place) [
  | inl early ↦ before i early
  | inr late ↦
      let same : place - 1 ≡ i = omega (arith, late, below) in
      and_left _ (get_or text (suc i) 0 == 40) (ap (λ k. get_or text k 0 == 32) (sym same) ∙ other (omega (arith, late, below)))
]

-- ---- the last byte

pub last_is : (byte : ℕ) (front : List ℕ) → without_last byte (front ++ byte ∷ []) ≡ Some front
last_is byte [] = cond-true (byte == byte) (Some []) None (eq-eqb byte byte refl)
last_is byte (x ∷ []) = ap (option_map (λ l. x ∷ l)) (last_is byte [])
last_is byte (x ∷ y ∷ front) = ap (option_map (λ l. x ∷ l)) (last_is byte (y ∷ front))

pub last_is_other : (byte other : ℕ) (front : List ℕ) → other ≢ byte → without_last byte (front ++ other ∷ []) ≡ None
last_is_other byte other [] differs = cond-false (other == byte) (Some []) None (ne_eqb other byte differs)
last_is_other byte other (x ∷ []) differs = ap (option_map (λ l. x ∷ l)) (last_is_other byte other [] differs)
last_is_other byte other (x ∷ y ∷ front) differs = ap (option_map (λ l. x ∷ l)) (last_is_other byte other (y ∷ front) differs)

longer : (byte x : ℕ) (text : List ℕ) (front : Option (List ℕ)) → MatchOption front (Unit {0}) (λ f. text ≡ f ++ byte ∷ [])
    → MatchOption (option_map (λ l. x ∷ l) front) (Unit {0}) (λ f. x ∷ text ≡ f ++ byte ∷ [])
longer byte x text None is = tt
longer byte x text (Some front) is = ap (λ l. x ∷ l) is

pub last_stands : (byte : ℕ) (text : List ℕ) → MatchOption (without_last byte text) (Unit {0}) (λ front. text ≡ front ++ byte ∷ [])
last_stands byte [] = tt
last_stands byte (x ∷ []) =
    cond_both (x == byte) (Some []) None (λ o. MatchOption o (Unit {0}) (λ front. x ∷ [] ≡ front ++ byte ∷ []))
    (λ same. ap (λ y. y ∷ []) (eqb-true x byte same)) (λ _. tt)
last_stands byte (x ∷ y ∷ text) = longer byte x (y ∷ text) (without_last byte (y ∷ text)) (last_stands byte (y ∷ text))
