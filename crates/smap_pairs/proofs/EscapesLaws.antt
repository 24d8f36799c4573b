-- The longest escape of a text, step by step.
use Rattle.std.proofs.Common.{◌≡◌, ℕ, zero, suc, ◌+◌, ◌-◌, ◌<◌, ◌≤◌, Bool, true, false, ◌++◌, ◌*◌, List, [], ◌∷◌, Option, Some, None, drop, length, get_or, refl, ap, sym, ◌∙◌, arith, eq-eqb, ne_eqb, le-leb, ◌≤◌, if◌then◌else◌}
use Rattle.std.specs.Prelude.{option_map}
use Rattle.std.specs.Char.{digit_value, is_ascii_hexdigit}
use Rattle.smap_pairs.specs.Laws.Chunks.{behind_first}
use Rattle.smap_pairs.specs.Escapes.{ending_of, escape_from, is_backslash, found, ended_by, hexadecimal, number_of, read_on}
use Rattle.smap_pairs.specs.declared.escapes.Escape.{Escape}

-- the bytes of an ending are passed
pub skipped : (skip size : ℕ) → (before : Option Escape) → (text : List ℕ)
    → escape_from size skip before text ≡ escape_from (size + skip) 0 before (drop skip text)
unfolding escape_from
skipped zero size before text = ap (λ n. escape_from n 0 before text) (omega arith)
skipped (suc skip) size before [] = refl
skipped (suc skip) size before (byte ∷ text) = skipped skip (size + 1) before text ∙ ap (λ n. escape_from n 0 before (drop skip text)) (omega arith)

-- a backslash is passed
pub run_goes_on : (size : ℕ) → (before : Option Escape) → (text : List ℕ) → escape_from size 0 before (92 ∷ text) ≡ escape_from (size + 1) 0 before text
unfolding escape_from ending_of
run_goes_on size before text = refl

-- the ending of an escape that goes on
abbrev pub longer : (size : ℕ) → Escape → Escape
longer size ending = record { size = size + ending.size; means = ending.means }

-- nothing ends a run of backslashes
pub unended : (size byte : ℕ) → (before : Option Escape) → (text : List ℕ) → is_backslash byte ≡ false
    → ending_of (byte ∷ text) ≡ None → escape_from size 0 before (byte ∷ text) ≡ before
unfolding escape_from
unended size byte before text is_other none =
    ap (λ is. read_on is size before (λ skip before. escape_from (size + 1) skip before text) (ending_of (byte ∷ text))) is_other
    ∙ ap (ended_by size before (λ skip before. escape_from (size + 1) skip before text)) none

-- an ending ends it
pub ended : (size byte : ℕ) → (before : Option Escape) → (text : List ℕ) → (ending : Escape) → is_backslash byte ≡ false → ending_of (byte ∷ text) ≡ Some ending
    → is_backslash ending.means ≡ false → escape_from size 0 before (byte ∷ text) ≡ Some (longer size ending)
unfolding escape_from
ended size byte before text ending is_other is means_other =
    ap (λ is. read_on is size before (λ skip before. escape_from (size + 1) skip before text) (ending_of (byte ∷ text))) is_other
    ∙ ap (ended_by size before (λ skip before. escape_from (size + 1) skip before text)) is
    ∙ ap (λ goes_on. found goes_on (λ before. escape_from (size + 1) (ending.size - 1) before text) (longer size ending)) means_other

one_less : (size n : ℕ) → 0 < n → size + 1 + (n - 1) ≡ size + n
one_less size n some = omega arith

-- an escape of a backslash goes on
pub goes_on : (size byte : ℕ) → (before : Option Escape) → (text : List ℕ) → (ending : Escape)
    → is_backslash byte ≡ false → ending_of (byte ∷ text) ≡ Some ending → is_backslash ending.means ≡ true → 0 < ending.size
    → escape_from size 0 before (byte ∷ text) ≡ escape_from (size + ending.size) 0 (Some (longer size ending)) (drop ending.size (byte ∷ text))
unfolding escape_from
goes_on size byte before text ending is_other is means_backslash some =
    ap (λ is. read_on is size before (λ skip before. escape_from (size + 1) skip before text) (ending_of (byte ∷ text))) is_other
    ∙ ap (ended_by size before (λ skip before. escape_from (size + 1) skip before text)) is
    ∙ ap (λ goes_on. found goes_on (λ before. escape_from (size + 1) (ending.size - 1) before text) (longer size ending)) means_backslash
    ∙ skipped (ending.size - 1) (size + 1) (Some (longer size ending)) text
    ∙ ap (λ n. escape_from n 0 (Some (longer size ending)) (drop (ending.size - 1) text)) (one_less size ending.size some)
    ∙ ap (escape_from (size + ending.size) 0 (Some (longer size ending))) (behind_first ending.size byte text some)

-- ---- the same, of a text that begins with a byte

pub ended_behind : (size : ℕ) (before : Option Escape) (rest : List ℕ) (byte : ℕ) (behind : List ℕ) (ending : Escape) → rest ≡ byte ∷ behind
    → (byte ≡ 92 → ⊥) → Some ending ≡ ending_of rest → (ending.means ≡ 92 → ⊥) → escape_from size 0 before rest ≡ Some (longer size ending)
ended_behind size before rest byte behind ending begins other is means =
    ap (escape_from size 0 before) begins
    ∙ ended size byte before behind ending (ne_eqb byte 92 other) (sym (is ∙ ap ending_of begins)) (ne_eqb ending.means 92 means)

pub goes_on_behind : (size : ℕ) (before : Option Escape) (rest : List ℕ) (byte : ℕ) (behind : List ℕ) (ending : Escape) → rest ≡ byte ∷ behind
    → (byte ≡ 92 → ⊥) → Some ending ≡ ending_of rest → ending.means ≡ 92 → 0 < ending.size
    → escape_from size 0 before rest ≡ escape_from (size + ending.size) 0 (Some (longer size ending)) (drop ending.size rest)
goes_on_behind size before rest byte behind ending begins other is means some =
    ap (escape_from size 0 before) begins
    ∙ goes_on size byte before behind ending (ne_eqb byte 92 other) (sym (is ∙ ap ending_of begins)) (eq-eqb ending.means 92 means) some
    ∙ ap (λ text. escape_from (size + ending.size) 0 (Some (longer size ending)) (drop ending.size text)) (sym begins)

pub over : (size : ℕ) → (before : Option Escape) → escape_from size 0 before [] ≡ before
unfolding escape_from
over size before = refl

-- ---- four digits are two and two

abbrev after : Option ℕ → List ℕ → Option ℕ
after None digits = None
after (Some n) digits = hexadecimal n digits

joined_on : (is : Bool) → (n : ℕ) → (front back : List ℕ) → hexadecimal n (front ++ back) ≡ after (hexadecimal n front) back
    → (if is then hexadecimal n (front ++ back) else None) ≡ after (if is then hexadecimal n front else None) back
joined_on true n front back e = e
joined_on false n front back e = refl

two_on : (first second : Bool) → (n high low : ℕ) →
    (if first then (if second then Some (16 * (16 * n + high) + low) else None) else None)
    ≡ option_map (λ m. 256 * n + m) (if first then (if second then Some (16 * (16 * 0 + high) + low) else None) else None)
two_on true true n high low = ap Some (omega arith)
two_on true false n high low = refl
two_on false second n high low = refl

two_behind : (n c d : ℕ) → hexadecimal n (c ∷ d ∷ []) ≡ option_map (λ low. 256 * n + low) (hexadecimal 0 (c ∷ d ∷ []))
two_behind n c d = two_on (is_ascii_hexdigit c) (is_ascii_hexdigit d) n (digit_value c) (digit_value d)

joined : (n : ℕ) → (front back : List ℕ) → hexadecimal n (front ++ back) ≡ after (hexadecimal n front) back
joined n [] back = refl
joined n (byte ∷ front) back = joined_on (is_ascii_hexdigit byte) (16 * n + digit_value byte) front back (joined (16 * n + digit_value byte) front back)

pub four_none : (a b c d n : ℕ) → hexadecimal 0 (a ∷ b ∷ []) ≡ Some n → hexadecimal 0 (c ∷ d ∷ []) ≡ None → hexadecimal 0 (a ∷ b ∷ c ∷ d ∷ []) ≡ None
four_none a b c d n first second =
    joined 0 (a ∷ b ∷ []) (c ∷ d ∷ []) ∙ ap (λ high. after high (c ∷ d ∷ [])) first ∙ two_behind n c d ∙ ap (option_map (λ low. 256 * n + low)) second

pub four_some : (a b c d n m : ℕ) → hexadecimal 0 (a ∷ b ∷ []) ≡ Some n → hexadecimal 0 (c ∷ d ∷ []) ≡ Some m
    → hexadecimal 0 (a ∷ b ∷ c ∷ d ∷ []) ≡ Some (n * 256 + m)
four_some a b c d n m first second =
    joined 0 (a ∷ b ∷ []) (c ∷ d ∷ []) ∙ ap (λ high. after high (c ∷ d ∷ [])) first ∙ two_behind n c d ∙ ap (option_map (λ low. 256 * n + low)) second
    ∙ ap Some (omega arith)

pub number_here : (text : List ℕ) → 4 ≤ length text
    → number_of 4 text ≡ hexadecimal 0 (get_or text 0 0 ∷ get_or text 1 0 ∷ get_or text 2 0 ∷ get_or text 3 0 ∷ [])
number_here [] few = absurd (omega arith)
number_here (a ∷ []) few = absurd (omega arith)
number_here (a ∷ b ∷ []) few = absurd (omega arith)
number_here (a ∷ b ∷ c ∷ []) few = absurd (omega arith)
number_here (a ∷ b ∷ c ∷ d ∷ text) enough = ap (λ is. if is then hexadecimal 0 (a ∷ b ∷ c ∷ d ∷ []) else None) (le-leb 4 (length (a ∷ b ∷ c ∷ d ∷ text)) enough)

pub ruleset escape_steps = (over, run_goes_on, unended, ended)
