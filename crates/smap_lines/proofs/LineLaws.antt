-- The lines of a text, one after another; and a text cut after a line, whose lines are those of its parts.
use Rattle.std.proofs.Common.{◌≡◌, ◌==◌, ◌+◌, ◌<◌, ◌≤◌, ◌||◌, ℕ, suc, Bool, true, false, cond, List, [], ◌∷◌, ◌++◌, length, length-append}
use Rattle.std.proofs.Common.{length-take, get_or, get_or-take, take, drop, refl, sym, ap, ◌∙◌, arith, ⊎_elim, inl, inr}
use Rattle.std.proofs.Math.Bool.{not-not, or-true}
use Rattle.std.specs.List.{filter, flat_map}
use Rattle.std.specs.Prelude.{not}
use Rattle.std.proofs.lemmas.Bool.{cond-false, cond_both, false_from_ne_true, or_from, or_parts}
use Rattle.std.proofs.lemmas.Grind.{flat_map-append}
use Rattle.std.proofs.lemmas.List.Elements.{filter-append}
use Rattle.std.proofs.lemmas.List.Filters.{length-filter_both}
use Rattle.std.proofs.lemmas.List.Folds.{list_any-append}
use Rattle.smap_lines.specs.Edited.{edited, edited_line, is_long, is_short, long_lines}
use Rattle.smap_lines.specs.Lines.{IsWholeLines, Line, has_line_end, lines_with_ends, onto_first}

-- the line that an LF ends, and one that the text ends
abbrev pub ended : List ℕ → Line
ended bytes = record { bytes = bytes; is_ended = true }

abbrev pub last : List ℕ → Line
last bytes = record { bytes = bytes; is_ended = false }

-- ---- the first line

pub first_line : (line rest : List ℕ) → has_line_end line ≡ false → lines_with_ends (line ++ 10 ∷ rest) ≡ ended line ∷ lines_with_ends rest
first_line [] rest none = refl
first_line (x ∷ line) rest none =
    let parts = or_parts (x == 10) (has_line_end line) none in
    cond-false (x == 10) _ (onto_first x (lines_with_ends (line ++ 10 ∷ rest))) parts.0 ∙ ap (onto_first x) (first_line line rest parts.1)

pub only_line : (line : List ℕ) → has_line_end line ≡ false → 0 < length line → lines_with_ends line ≡ last line ∷ []
only_line [] none some = absurd (omega arith)
only_line (x ∷ []) none some = cond-false (x == 10) _ (onto_first x []) (or_parts (x == 10) false none).0
only_line (x ∷ y ∷ line) none some =
    let parts = or_parts (x == 10) (has_line_end (y ∷ line)) none in
    cond-false (x == 10) _ (onto_first x (lines_with_ends (y ∷ line))) parts.0 ∙ ap (onto_first x) (only_line (y ∷ line) parts.1 (omega arith))

-- ---- a join of whole lines

onto_join : (x : ℕ) (lines more : List Line) → 0 < length lines → onto_first x (lines ++ more) ≡ onto_first x lines ++ more
onto_join x [] more some = absurd (omega arith)
onto_join x (line ∷ lines) more some = refl

onto_some : (x : ℕ) (lines : List Line) → 0 < length (onto_first x lines)
onto_some x [] = omega arith
onto_some x (line ∷ lines) = omega arith

lines_some : (text : List ℕ) → 0 < length text → 0 < length (lines_with_ends text)
lines_some [] some = some
lines_some (x ∷ text) some = cond_both (x == 10) _ _ (λ l. 0 < length l) (λ _. omega arith) (λ _. onto_some x (lines_with_ends text))

join_at : (x : ℕ) (t : Bool) (whole first rest : List Line) → 0 < length first → whole ≡ first ++ rest →
    cond t (ended [] ∷ whole) (onto_first x whole) ≡ cond t (ended [] ∷ first) (onto_first x first) ++ rest
join_at x true whole first rest some is = ap (λ l. ended [] ∷ l) is
join_at x false whole first rest some is = ap (onto_first x) is ∙ onto_join x first rest some

lines_join : (front rest : List ℕ) → lines_with_ends ((front ++ 10 ∷ []) ++ rest) ≡ lines_with_ends (front ++ 10 ∷ []) ++ lines_with_ends rest
lines_join [] rest = refl
lines_join (x ∷ front) rest =
    join_at x (x == 10) (lines_with_ends ((front ++ 10 ∷ []) ++ rest)) (lines_with_ends (front ++ 10 ∷ [])) (lines_with_ends rest)
    (lines_some (front ++ 10 ∷ []) (omega (arith, length-append front (10 ∷ [])))) (lines_join front rest)

pub lines_of_both : (first rest : List ℕ) → IsWholeLines first → lines_with_ends (first ++ rest) ≡ lines_with_ends first ++ lines_with_ends rest
lines_of_both first rest whole = ⊎_elim
    (λ (none : first ≡ []). ap (λ l. lines_with_ends (l ++ rest)) none ∙ ap (λ l. lines_with_ends l ++ lines_with_ends rest) (sym none))
    (λ (is : (front : List ℕ) × (first ≡ front ++ 10 ∷ [])).
    ap (λ l. lines_with_ends (l ++ rest)) is.1 ∙ lines_join is.0 rest ∙ ap (λ l. lines_with_ends l ++ lines_with_ends rest) (sym is.1))
    whole

-- how many of them are long
pub long_of_both : (first rest : List ℕ) → IsWholeLines first → long_lines (first ++ rest) ≡ long_lines first + long_lines rest
long_of_both first rest whole =
    ap (λ l. length (filter is_long l)) (lines_of_both first rest whole)
    ∙ ap length (filter-append is_long (lines_with_ends first) (lines_with_ends rest))
    ∙ length-append (filter is_long (lines_with_ends first)) (filter is_long (lines_with_ends rest))

one_long : (b : Bool) (line : Line) → length (cond (not b) (line ∷ []) []) ≡ cond (not b) 1 0
one_long true line = refl
one_long false line = refl

pub long_ended : (line : List ℕ) → has_line_end line ≡ false → long_lines (line ++ 10 ∷ []) ≡ cond (not (is_short (ended line))) 1 0
long_ended line none = ap (λ l. length (filter is_long l)) (first_line line [] none) ∙ one_long (is_short (ended line)) (ended line)

-- there are no more of these than lines
pub few_long : (text : List ℕ) → long_lines text ≤ length (lines_with_ends text)
few_long text = omega (arith, length-filter_both is_long is_short (λ line. sym (not-not (is_short line))) (lines_with_ends text))

-- ---- what becomes of them

pub edited_both : (becomes : Line → List ℕ) (first rest : List ℕ) → IsWholeLines first
    → edited becomes (first ++ rest) ≡ edited becomes first ++ edited becomes rest
unfolding edited
edited_both becomes first rest whole =
    ap (flat_map (edited_line becomes)) (lines_of_both first rest whole) ∙ flat_map-append (edited_line becomes) (lines_with_ends first) (lines_with_ends rest)

-- ---- where an LF is

pub no_end_in_both : (first second : List ℕ) → has_line_end first ≡ false → has_line_end second ≡ false → has_line_end (first ++ second) ≡ false
no_end_in_both first second one two = list_any-append (λ byte. byte == 10) first second ∙ ap (λ b. b || has_line_end second) one ∙ two

-- no byte of the text is an LF
pub no_end_anywhere : (text : List ℕ) → ((k : ℕ) → k < length text → (get_or text k 0 == 10) ≡ true → ⊥) → has_line_end text ≡ false
no_end_anywhere [] none = refl
no_end_anywhere (x ∷ text) none =
    or_from (x == 10) (has_line_end text) (false_from_ne_true (x == 10) (none 0 (omega arith)))
    (no_end_anywhere text (λ k within. none (suc k) (omega (arith, within))))

pub no_end_before : (text : List ℕ) (k : ℕ) → k ≤ length text → ((i : ℕ) → i < k → (get_or text i 0 == 10) ≡ true → ⊥) → has_line_end (take k text) ≡ false
no_end_before text k within none =
    no_end_anywhere (take k text) (λ i below here.
    let inside : i < k = omega (arith, below, length-take k text) in
    none i inside (ap (λ b. b == 10) (sym (get_or-take k text i 0 inside)) ∙ here))

-- ---- a front of whole lines

whole_tail_at : (x : ℕ) (text front : List ℕ) → x ∷ text ≡ front ++ 10 ∷ [] → IsWholeLines text
whole_tail_at x text [] is = inl (cc)
whole_tail_at x text (y ∷ front) is = inr (front, (cc))

whole_tail : (x : ℕ) (text : List ℕ) → IsWholeLines (x ∷ text) → IsWholeLines text
whole_tail x text (inl none) = absurd (cc)
whole_tail x text (inr ends) = whole_tail_at x text ends.0 ends.1

-- one that is not empty has an LF
whole_has : (x : ℕ) (text : List ℕ) → IsWholeLines (x ∷ text) → has_line_end (x ∷ text) ≡ true
whole_has x text (inl none) = absurd (cc)
whole_has x text (inr ends) =
    ap has_line_end ends.1 ∙ list_any-append (λ byte. byte == 10) ends.0 (10 ∷ []) ∙ or-true (has_line_end ends.0)

-- whole lines and a line that is begun: a front of whole lines is one of the whole lines
pub whole_begins : (done begun front rest : List ℕ) → done ++ begun ≡ front ++ rest → IsWholeLines front → has_line_end begun ≡ false →
    (more : List ℕ) × (done ≡ front ++ more)
whole_begins done begun [] rest is whole none = (done, refl)
whole_begins [] begun (x ∷ front) rest is whole none =
    let ends : has_line_end begun ≡ true = ap has_line_end is ∙ list_any-append (λ byte. byte == 10) (x ∷ front) rest
    ∙ ap (λ b. b || has_line_end rest) (whole_has x front whole) in
    absurd (cc)
whole_begins (y ∷ done) begun (x ∷ front) rest is whole none =
    let head : y ≡ x = cc in
    let tail : done ++ begun ≡ front ++ rest = cc in
    let begins = whole_begins done begun front rest tail (whole_tail x front whole) none in
    (begins.0, (λ i. head i ∷ begins.1 i))
