-- How the last escape of a line's end is found.
use Rattle.std.proofs.Common.{◌≡◌, ◌<◌, ◌≤◌, ◌+◌, ◌-◌, ℕ, zero, suc, true, false, List, [], ◌∷◌, Option, None, length, drop, get_or, max, ap, sym, ◌∙◌, arith, length-drop}
use Rattle.std.specs.Prelude.{◌==◌, if◌then◌else◌}
use Rattle.std.specs.List.{prefix_len}
use Rattle.std.proofs.lemmas.Bool.{false_from_ne_true, or_parts}
use Rattle.std.proofs.lemmas.List.{drop_all}
use Rattle.memchr.specs.Find.{is_byte2}
use Rattle.smap_pairs.specs.Chunks.{escape_size, is_line_end, line_end_from}
use Rattle.smap_pairs.specs.Escapes.{escape_from, escape_of, is_backslash, octal, of_size}
use Rattle.smap_pairs.specs.declared.escapes.Escape.{Escape}

-- bytes that belong to what began before
skipped : (last at skip : ℕ) (text : List ℕ) → skip ≤ length text
    → line_end_from last at skip text ≡ line_end_from last (at + skip) 0 (drop skip text)
skipped last at zero text within = ap (λ n. line_end_from last n 0 text) (let e : at ≡ at + 0 = omega arith in e)
skipped last at (suc skip) [] within = absurd (omega arith)
skipped last at (suc skip) (byte ∷ text) within =
    skipped last (suc at) skip text (omega arith)
    ∙ ap (λ n. line_end_from last n 0 (drop skip text)) (let e : suc at + skip ≡ at + suc skip = omega arith in e)

-- what a text begins with
ended : (last at size : ℕ) (text : List ℕ) → size ≡ escape_size text (escape_of text) → 0 < size → size ≤ length text
    → line_end_from last at 0 text ≡ line_end_from (if is_line_end (escape_of text) then at else last) (at + size) 0 (drop size text)
ended last at size [] is some within = absurd (omega arith)
ended last at zero (byte ∷ text) is some within = absurd (omega arith)
ended last at (suc size) (byte ∷ text) is some within =
    let now : ℕ = if is_line_end (escape_of (byte ∷ text)) then at else last in
    let less : escape_size (byte ∷ text) (escape_of (byte ∷ text)) - 1 ≡ size = omega (arith, is) in
    ap (λ n. line_end_from now (suc at) n text) less
    ∙ skipped now (suc at) size text (omega (arith, within))
    ∙ ap (λ n. line_end_from now n 0 (drop size text)) (let e : suc at + size ≡ at + suc size = omega arith in e)

-- bytes that begin no escape
no_escape : (byte : ℕ) (text : List ℕ) → (byte == 92) ≡ false → (byte == 35) ≡ false → escape_of (byte ∷ text) ≡ None
unfolding escape_of
no_escape byte text slash sign =
    ap (λ b. if b then escape_from 0 0 None (byte ∷ text) else if byte == 35 then of_size 4 (octal (byte ∷ text)) else None) slash
    ∙ ap (λ b. if b then of_size 4 (octal (byte ∷ text)) else None) sign

plain_byte : (last at byte : ℕ) (text : List ℕ) → is_byte2 92 35 byte ≡ false → line_end_from last at 0 (byte ∷ text) ≡ line_end_from last (suc at) 0 text
plain_byte last at byte text plain =
    let parts = or_parts (byte == 92) (byte == 35) plain in
    ap (λ (escape : Option Escape). line_end_from (if is_line_end escape then at else last) (suc at) (escape_size (byte ∷ text) escape - 1) text)
    (no_escape byte text parts.0 parts.1)
    ∙ ap (λ b. line_end_from last (suc at) (max 1 (if b then 1 + prefix_len is_backslash text else 0) - 1) text) parts.0

plain_bytes : (last at many : ℕ) (text : List ℕ) → many ≤ length text → ((i : ℕ) → i < many → is_byte2 92 35 (get_or text i 0) ≡ true → ⊥)
    → line_end_from last at 0 text ≡ line_end_from last (at + many) 0 (drop many text)
plain_bytes last at zero text within plain = ap (λ n. line_end_from last n 0 text) (let e : at ≡ at + 0 = omega arith in e)
plain_bytes last at (suc many) [] within plain = absurd (omega arith)
plain_bytes last at (suc many) (byte ∷ text) within plain =
    plain_byte last at byte text (false_from_ne_true (is_byte2 92 35 byte) (plain 0 (omega arith)))
    ∙ plain_bytes last (suc at) many text (omega arith) (λ i before. plain (suc i) (omega arith))
    ∙ ap (λ n. line_end_from last n 0 (drop many text)) (let e : suc at + many ≡ at + suc many = omega arith in e)

-- no escape begins in a text
pub none_begins : (last at : ℕ) (text : List ℕ) → ((i : ℕ) → i < length text → is_byte2 92 35 (get_or text i 0) ≡ true → ⊥)
    → line_end_from last at 0 text ≡ last
none_begins last at text plain =
    plain_bytes last at (length text) text (omega arith) plain
    ∙ ap (line_end_from last (at + length text) 0) (drop_all (length text) text (omega arith))

-- a loop that has come to `rest` goes on behind the escape, the run or the byte that stands behind so many others
pub next_begins : (text rest found behind : List ℕ) (last now at size : ℕ) (escape : Option Escape)
    → line_end_from 0 0 0 text ≡ line_end_from last (length text - length rest) 0 rest → length rest ≤ length text
    → at < length rest → ((i : ℕ) → i < at → is_byte2 92 35 (get_or rest i 0) ≡ true → ⊥) → found ≡ drop at rest
    → escape ≡ escape_of found → size ≡ escape_size found escape → 0 < size → size ≤ length found
    → now ≡ (if is_line_end escape then length text - length found else last) → behind ≡ drop size found
    → line_end_from 0 0 0 text ≡ line_end_from now (length text - length behind) 0 behind
next_begins text rest found behind last now at size escape before few within plain found_is escape_is size_is some enough now_is behind_is =
    let passed : ℕ = length text - length rest in
    let here : ℕ = length text - length found in
    let found_size : length found ≡ length rest - at = ap length found_is ∙ length-drop at rest in
    let behind_size : length behind ≡ length found - size = ap length behind_is ∙ length-drop size found in
    let there : passed + at ≡ here = omega (arith, found_size, within, few) in
    let next : here + size ≡ length text - length behind = omega (arith, found_size, behind_size, within, few, enough) in
    before
    ∙ plain_bytes last passed at rest (omega (arith, within)) plain
    ∙ ap (λ n. line_end_from last n 0 (drop at rest)) there
    ∙ ap (line_end_from last here 0) (sym found_is)
    ∙ ended last here size found (size_is ∙ ap (escape_size found) escape_is) some enough
    ∙ ap (λ n. line_end_from n (here + size) 0 (drop size found))
    (ap (λ (e : Option Escape). if is_line_end e then here else last) (sym escape_is) ∙ sym now_is)
    ∙ ap (λ n. line_end_from now n 0 (drop size found)) next
    ∙ ap (line_end_from now (length text - length behind) 0) (sym behind_is)
