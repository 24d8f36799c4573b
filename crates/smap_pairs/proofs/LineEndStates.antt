-- A line's end that is escaped begins between two characters of JSON, or with `#`, or with a backslash that is the first of its run.
use Rattle.std.proofs.Common.{◌≡◌, ◌≢◌, ◌<◌, ◌+◌, ◌-◌, ◌⊎◌, inl, inr, ℕ, zero, suc, Bool, true, false, List, [], ◌∷◌, Option, Some, None, length, drop, get_or, max, take, ap, refl, sym, ◌∙◌, arith, length-drop}
use Rattle.std.specs.Prelude.{◌==◌, if◌then◌else◌}
use Rattle.std.specs.List.{prefix_len}
use Rattle.std.proofs.lemmas.Bool.{eqb-true}
use Rattle.std.proofs.lemmas.List.{drop_more}
use Rattle.std.proofs.lemmas.List.Sums.{prefix_len_stops}
use Rattle.smap_pairs.specs.Chunks.{escape_size, is_line_end, last_line_end, line_end_from}
use Rattle.smap_pairs.specs.Escapes.{escape_from, escape_of, is_backslash, octal, of_size}
use Rattle.smap_pairs.specs.Json.{InString, past, past_all}
use Rattle.smap_pairs.specs.Json.InString.{behind_backslash, between}
use Rattle.smap_pairs.specs.Marks.{ends_line}
use Rattle.smap_pairs.specs.declared.escapes.Escape.{Escape}
use Rattle.smap_pairs.proofs.EscapeStates.{escape_passed}
use Rattle.smap_pairs.proofs.JsonLaws.{behind_is}
use Rattle.smap_pairs.proofs.TokenLaws.{escape_clear}

-- a backslash that no other stands before, or a `#`
abbrev pub BeginsEscape : InString → (byte : ℕ) → Type 0
BeginsEscape state byte = ((byte ≡ 92) × (state ≢ behind_backslash)) ⊎ (byte ≡ 35)

-- if a text begins with a backslash, no other stands before it
Clear : InString → (text : List ℕ) → Type 0
Clear state text = 0 < length text → get_or text 0 0 ≡ 92 → state ≢ behind_backslash

-- what a byte is with which an escape begins
first_of_escape : (byte : ℕ) (text : List ℕ) (escape : Escape) → escape_of (byte ∷ text) ≡ Some escape → (byte ≡ 92) ⊎ (byte ≡ 35)
unfolding escape_of
first_of_escape byte text escape is = go (is_backslash byte) (byte == 35) refl refl is
  where
    go : (slash sign : Bool) → is_backslash byte ≡ slash → (byte == 35) ≡ sign
        → (if slash then escape_from 0 0 None (byte ∷ text) else if sign then of_size 4 (octal (byte ∷ text)) else None) ≡ Some escape
        → (byte ≡ 92) ⊎ (byte ≡ 35)
    go true sign slash_is sign_is some = inl (eqb-true byte 92 slash_is)
    go false true slash_is sign_is some = inr (eqb-true byte 35 sign_is)
    go false false slash_is sign_is some = cc

-- ---- behind what a text begins with

clear_behind : (state : InString) (byte : ℕ) (text : List ℕ) (escape : Option Escape) → escape_of (byte ∷ text) ≡ escape
    → Clear (past_all (past state byte) (take (escape_size (byte ∷ text) escape - 1) text)) (drop (escape_size (byte ∷ text) escape - 1) text)
unfolding Clear
clear_behind state byte text (Some escape) is some slash behind =
    let whole : suc (escape.size - 1) ≡ escape.size = (let size = (escape_clear (byte ∷ text) escape is).0 in omega (arith, size)) in
    let passed : past_all state (take (suc (escape.size - 1)) (byte ∷ text)) ≡ between =
    ap (λ n. past_all state (take n (byte ∷ text))) whole ∙ escape_passed state (byte ∷ text) escape is in
    cc
clear_behind state byte text None is some slash behind = go (is_backslash byte) refl some slash behind
  where
    go : (run : Bool) → is_backslash byte ≡ run
        → 0 < length (drop (max 1 (if run then 1 + prefix_len is_backslash text else 0) - 1) text)
        → get_or (drop (max 1 (if run then 1 + prefix_len is_backslash text else 0) - 1) text) 0 0 ≡ 92
        → past_all (past state byte) (take (max 1 (if run then 1 + prefix_len is_backslash text else 0) - 1) text) ≢ behind_backslash
    go false other some slash behind = behind_is state byte other behind
    go true run some slash behind =
        let many : ℕ = prefix_len is_backslash text in
        let same : max 1 (1 + many) - 1 ≡ many = omega arith in
        let within : many < length text = omega (arith, same, length-drop (max 1 (1 + many) - 1) text, some) in
        let stops : is_backslash (get_or text many 0) ≡ false = prefix_len_stops is_backslash text 0 within in
        let there : get_or text many 0 ≡ 92 =
        sym (ap (λ l. get_or l 0 0) (drop_more text many 0 within)) ∙ ap (λ n. get_or (drop n text) 0 0) (sym same) ∙ slash in
        let is : is_backslash (get_or text many 0) ≡ true = ap is_backslash there in
        cc

-- ---- where the last one begins

-- before a text, or in it
abbrev Found : InString → (last at result : ℕ) → (text : List ℕ) → Type 0
Found state last at result text =
    (result ≡ last) ⊎ ((k : ℕ) × (result ≡ at + k) × (k < length text) × BeginsEscape (past_all state (take k text)) (get_or text k 0))

one_more : (state : InString) (last at result byte : ℕ) (text : List ℕ) → Found (past state byte) last (suc at) result text
    → Found state last at result (byte ∷ text)
one_more state last at result byte text (inl is) = inl is
one_more state last at result byte text (inr (k, is, within, begins)) = inr (suc k, omega (arith, is), omega (arith, within), begins)

with_escape : (state : InString) (last at result byte : ℕ) (text : List ℕ) (escape : Option Escape) → escape_of (byte ∷ text) ≡ escape
    → Clear state (byte ∷ text) → Found (past state byte) (if is_line_end escape then at else last) (suc at) result text
    → Found state last at result (byte ∷ text)
unfolding Clear
with_escape state last at result byte text None is clear found = one_more state last at result byte text found
with_escape state last at result byte text (Some escape) is clear found = go (ends_line escape.means) found
  where
    begins : (byte ≡ 92) ⊎ (byte ≡ 35) → BeginsEscape state byte
    begins (inl slash) = inl (slash, clear (omega arith) slash)
    begins (inr sign) = inr sign

    go : (is_end : Bool) → Found (past state byte) (if is_end then at else last) (suc at) result text → Found state last at result (byte ∷ text)
    go false found = one_more state last at result byte text found
    go true (inl here) = inr (0, omega (arith, here), omega arith, begins (first_of_escape byte text escape is))
    go true (inr later) = one_more state last at result byte text (inr later)

found_in : (state : InString) (last at skip : ℕ) (text : List ℕ) → Clear (past_all state (take skip text)) (drop skip text)
    → Found state last at (line_end_from last at skip text) text
found_in state last at skip [] clear = inl refl
found_in state last at (suc skip) (byte ∷ text) clear =
    one_more state last at (line_end_from last (suc at) skip text) byte text (found_in (past state byte) last (suc at) skip text clear)
found_in state last at zero (byte ∷ text) clear =
    let escape = escape_of (byte ∷ text) in
    with_escape state last at _ byte text escape refl clear
    (found_in (past state byte) (if is_line_end escape then at else last) (suc at) (escape_size (byte ∷ text) escape - 1) text
    (clear_behind state byte text escape refl))

-- in a whole text, of which it is not the first byte
pub line_end_begins : (state : InString) (text : List ℕ) → 0 < last_line_end text
    → (last_line_end text < length text) × BeginsEscape (past_all state (take (last_line_end text) text)) (get_or text (last_line_end text) 0)
unfolding last_line_end
line_end_begins state [] some = absurd (omega (arith, some))
line_end_begins state (byte ∷ text) some =
    let escape = escape_of (byte ∷ text) in
    let found = found_in (past state byte) (if is_line_end escape then 0 else 0) 1 (escape_size (byte ∷ text) escape - 1) text
    (clear_behind state byte text escape refl) in
    go (is_line_end escape) (line_end_from 0 0 0 (byte ∷ text)) some found
  where
    go : (is_end : Bool) (result : ℕ) → 0 < result → Found (past state byte) (if is_end then 0 else 0) 1 result text
        → (result < suc (length text)) × BeginsEscape (past_all state (take result (byte ∷ text))) (get_or (byte ∷ text) result 0)
    go true result some (inl none) = absurd (omega (arith, some, none))
    go false result some (inl none) = absurd (omega (arith, some, none))
    go is_end result some (inr (k, is, within, begins)) =
        let there : result ≡ suc k = omega (arith, is) in
        rw there (omega (arith, within), begins)
