-- The first line of a text, and its lines.
use Rattle.std.proofs.Common.{◌≡◌, ◌==◌, ◌||◌, ℕ, Bool, true, false, cond, List, [], ◌∷◌, ◌++◌, length, refl, ap, ◌∙◌, ◌<◌, arith}
use Rattle.std.proofs.lemmas.Bool.{cond-false, eqb-true, or_parts}
use Rattle.smap_lines.specs.Lines.{Line, end_in, has_line_end, line_text, lines_with_ends, onto_first}
use Rattle.smap_piecewise.specs.FirstLine.{behind_line, line_at, through_line}

-- ---- the lines of a text that has bytes

abbrev pub first_of : (text : List ℕ) → Line
first_of text = record { bytes = line_at text; is_ended = has_line_end text }

lines_at : (q : Bool) (byte : ℕ) (text : List ℕ) (lines rest : List Line) → lines ≡ first_of text ∷ rest
    → cond q (record { bytes = []; is_ended = true } ∷ lines) (onto_first byte lines)
    ≡ record { bytes = cond q [] (byte ∷ line_at text); is_ended = q || has_line_end text } ∷ cond q lines rest
lines_at true byte text lines rest is = refl
lines_at false byte text lines rest is = ap (onto_first byte) is

pick : (q : Bool) (text rest : List ℕ) → cond q (lines_with_ends text) (lines_with_ends rest) ≡ lines_with_ends (cond q text rest)
pick true text rest = refl
pick false text rest = refl

one_byte : (q : Bool) (byte : ℕ) → cond q (record { bytes = []; is_ended = true } ∷ []) (onto_first byte [])
    ≡ record { bytes = cond q [] (byte ∷ []); is_ended = q || false } ∷ lines_with_ends (cond q [] [])
one_byte true byte = refl
one_byte false byte = refl

pub lines_first : (byte : ℕ) (text : List ℕ) → lines_with_ends (byte ∷ text) ≡ first_of (byte ∷ text) ∷ lines_with_ends (behind_line (byte ∷ text))
lines_first byte [] = one_byte (byte == 10) byte
lines_first byte (next ∷ text) =
    lines_at (byte == 10) byte (next ∷ text) (lines_with_ends (next ∷ text)) (lines_with_ends (behind_line (next ∷ text))) (lines_first next text)
    ∙ ap (λ lines. first_of (byte ∷ next ∷ text) ∷ lines) (pick (byte == 10) (next ∷ text) (behind_line (next ∷ text)))

-- ---- its text

through_at : (q : Bool) (byte : ℕ) (text : List ℕ) → (byte == 10) ≡ q → through_line text ≡ line_at text ++ end_in (has_line_end text)
    → byte ∷ cond q [] (through_line text) ≡ cond q [] (byte ∷ line_at text) ++ end_in (q || has_line_end text)
through_at true byte text is all = ap (λ b. b ∷ []) (eqb-true byte 10 is)
through_at false byte text is all = ap (λ l. byte ∷ l) all

pub through_is : (text : List ℕ) → through_line text ≡ line_text (first_of text)
through_is [] = refl
through_is (byte ∷ text) = through_at (byte == 10) byte text refl (through_is text)

-- ---- behind a line without an LF

pub behind_ended : (line rest : List ℕ) → has_line_end line ≡ false → behind_line (line ++ 10 ∷ rest) ≡ rest
behind_ended [] rest none = refl
behind_ended (x ∷ line) rest none =
    let parts = or_parts (x == 10) (has_line_end line) none in
    cond-false (x == 10) (line ++ 10 ∷ rest) (behind_line (line ++ 10 ∷ rest)) parts.0 ∙ behind_ended line rest parts.1

pub through_ended : (line rest : List ℕ) → has_line_end line ≡ false → through_line (line ++ 10 ∷ rest) ≡ line ++ 10 ∷ []
through_ended [] rest none = refl
through_ended (x ∷ line) rest none =
    let parts = or_parts (x == 10) (has_line_end line) none in
    ap (λ l. x ∷ l) (cond-false (x == 10) [] (through_line (line ++ 10 ∷ rest)) parts.0 ∙ through_ended line rest parts.1)

pub behind_open : (line later : List ℕ) → has_line_end line ≡ false → behind_line (line ++ later) ≡ behind_line later
behind_open [] later none = refl
behind_open (x ∷ line) later none =
    let parts = or_parts (x == 10) (has_line_end line) none in
    cond-false (x == 10) (line ++ later) (behind_line (line ++ later)) parts.0 ∙ behind_open line later parts.1

pub through_open : (line later : List ℕ) → has_line_end line ≡ false → through_line (line ++ later) ≡ line ++ through_line later
through_open [] later none = refl
through_open (x ∷ line) later none =
    let parts = or_parts (x == 10) (has_line_end line) none in
    ap (λ l. x ∷ l) (cond-false (x == 10) [] (through_line (line ++ later)) parts.0 ∙ through_open line later parts.1)

pub line_open : (line later : List ℕ) → has_line_end line ≡ false → line_at (line ++ later) ≡ line ++ line_at later
line_open [] later none = refl
line_open (x ∷ line) later none =
    let parts = or_parts (x == 10) (has_line_end line) none in
    cond-false (x == 10) [] (x ∷ line_at (line ++ later)) parts.0 ∙ ap (λ l. x ∷ l) (line_open line later parts.1)

pub line_ended : (line rest : List ℕ) → has_line_end line ≡ false → line_at (line ++ 10 ∷ rest) ≡ line
line_ended [] rest none = refl
line_ended (x ∷ line) rest none =
    let parts = or_parts (x == 10) (has_line_end line) none in
    cond-false (x == 10) [] (x ∷ line_at (line ++ 10 ∷ rest)) parts.0 ∙ ap (λ l. x ∷ l) (line_ended line rest parts.1)

pub lines_first_of : (text : List ℕ) → 0 < length text → lines_with_ends text ≡ first_of text ∷ lines_with_ends (behind_line text)
lines_first_of [] some = absurd (omega arith)
lines_first_of (byte ∷ text) some = lines_first byte text
