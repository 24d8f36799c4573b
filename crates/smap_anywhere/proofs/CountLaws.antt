-- How many lines a text has.
use Rattle.std.proofs.Common.{◌≡◌, ◌==◌, ◌+◌, ◌<◌, ◌≤◌, ℕ, zero, suc, Bool, true, false, cond, not, List, [], ◌∷◌, ◌++◌, length, count_by, refl, sym, ap, ◌∙◌}
use Rattle.std.proofs.Common.{arith, drop, get_or}
use mir.Val.{bool_byte}
use Rattle.std.proofs.lemmas.Bool.{cond_both, false_from_ne_true}
use Rattle.std.proofs.lemmas.List.Sums.{sum_by-append, sum_by-cons}
use Rattle.smap_lines.specs.Lines.{Line, lines_with_ends, onto_first}
use Rattle.smap_anywhere.specs.Private.LineEnds.{has_open_line}

pub bit : (t : Bool) → cond t 1 0 ≤ 1
bit true = omega arith
bit false = omega arith

-- a `bool` as a number
pub byte_is : (b : Bool) → bool_byte b ≡ cond b 1 0
byte_is true = refl
byte_is false = refl

-- ---- line ends

abbrev pub is_end : ℕ → Bool
is_end byte = byte == 10

pub ends_both : (text more : List ℕ) → count_by is_end (text ++ more) ≡ count_by is_end text + count_by is_end more
ends_both text more = sum_by-append (λ byte. cond (is_end byte) 1 0) text more

ends_cons : (byte : ℕ) (text : List ℕ) → count_by is_end (byte ∷ text) ≡ cond (byte == 10) 1 0 + count_by is_end text
ends_cons byte text = sum_by-cons (λ byte. cond (is_end byte) 1 0) byte text

pub ends_few : (text : List ℕ) → count_by is_end text ≤ length text
ends_few [] = omega arith
ends_few (byte ∷ text) = omega (arith, ends_cons byte text, bit (byte == 10), ends_few text)

-- up to the first, and where there is none
pub ends_first : (text : List ℕ) (place : ℕ) → place < length text → ((k : ℕ) → k < place → (get_or text k 0 == 10) ≡ true → ⊥)
    → (get_or text place 0 == 10) ≡ true → count_by is_end text ≡ 1 + count_by is_end (drop (place + 1) text)
ends_first [] place within none here = absurd (omega (arith, within))
ends_first (byte ∷ text) zero within none here = ends_cons byte text ∙ ap (λ b. cond b 1 0 + count_by is_end text) here
ends_first (byte ∷ text) (suc place) within none here =
    let next : suc place + 1 ≡ suc (place + 1) = omega arith in
    let off : (byte == 10) ≡ false = false_from_ne_true (byte == 10) (none 0 (omega arith)) in
    let one : count_by is_end (byte ∷ text) ≡ 0 + count_by is_end text = ends_cons byte text ∙ ap (λ b. cond b 1 0 + count_by is_end text) off in
    let more : count_by is_end text ≡ 1 + count_by is_end (drop (place + 1) text) =
    ends_first text place (omega (arith, within)) (λ k below. none (suc k) (omega (arith, below))) here in
    let rest : count_by is_end (drop (suc place + 1) (byte ∷ text)) ≡ count_by is_end (drop (place + 1) text) =
    ap (λ n. count_by is_end (drop n (byte ∷ text))) next in
    omega (arith, one, more, rest)

pub ends_none : (text : List ℕ) → ((k : ℕ) → k < length text → (get_or text k 0 == 10) ≡ true → ⊥) → count_by is_end text ≡ 0
ends_none [] none = refl
ends_none (byte ∷ text) none =
    let off : (byte == 10) ≡ false = false_from_ne_true (byte == 10) (none 0 (omega arith)) in
    let one : count_by is_end (byte ∷ text) ≡ 0 + count_by is_end text = ends_cons byte text ∙ ap (λ b. cond b 1 0 + count_by is_end text) off in
    let more : count_by is_end text ≡ 0 = ends_none text (λ k below. none (suc k) (omega (arith, below))) in
    omega (arith, one, more)

-- ---- the line that is open

pub open_later : (text more : List ℕ) → 0 < length more → has_open_line (text ++ more) ≡ has_open_line more
open_later [] more some = refl
open_later (byte ∷ []) [] some = absurd (omega arith)
open_later (byte ∷ []) (next ∷ more) some = refl
open_later (byte ∷ next ∷ text) more some = open_later (next ∷ text) more some

-- ---- lines

onto_some : (byte : ℕ) (lines : List Line) → 0 < length (onto_first byte lines)
onto_some byte [] = omega arith
onto_some byte (line ∷ lines) = omega arith

onto_many : (byte : ℕ) (lines : List Line) → 0 < length lines → length (onto_first byte lines) ≡ length lines
onto_many byte [] some = absurd (omega arith)
onto_many byte (line ∷ lines) some = omega arith

lines_some : (byte : ℕ) (text : List ℕ) → 0 < length (lines_with_ends (byte ∷ text))
lines_some byte text = cond_both (byte == 10) _ _ (λ l. 0 < length l) (λ _. omega arith) (λ _. onto_some byte (lines_with_ends text))

lines_next : (t : Bool) (byte : ℕ) (lines : List Line) (line : Line) → 0 < length lines →
    length (cond t (line ∷ lines) (onto_first byte lines)) ≡ cond t 1 0 + length lines
lines_next true byte lines line some = omega arith
lines_next false byte lines line some = let many = onto_many byte lines some in omega (arith, many)

one_line : (t : Bool) (byte : ℕ) (line : Line) → length (cond t (line ∷ []) (onto_first byte [])) ≡ cond t 1 0 + 0 + cond (not t) 1 0
one_line true byte line = omega arith
one_line false byte line = omega arith

pub lines_counted : (text : List ℕ) → length (lines_with_ends text) ≡ count_by is_end text + cond (has_open_line text) 1 0
lines_counted [] = omega arith
lines_counted (byte ∷ []) =
    one_line (byte == 10) byte (record { bytes = []; is_ended = true }) ∙ ap (λ n. n + cond (not (byte == 10)) 1 0) (sym (ends_cons byte []))
lines_counted (byte ∷ next ∷ text) =
    let more = lines_counted (next ∷ text) in
    let first = lines_next (byte == 10) byte (lines_with_ends (next ∷ text)) (record { bytes = []; is_ended = true }) (lines_some next text) in
    let ends = ends_cons byte (next ∷ text) in
    omega (arith, more, first, ends)
