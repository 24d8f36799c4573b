-- What stands in a line for the bytes of a text.
use Rattle.std.proofs.Common.{◌≡◌, ◌/◌, ◌%◌, ◌==◌, ◌||◌, ℕ, Bool, true, false, cond, ltb, List, [], ◌∷◌, ◌++◌, Some, None, append_assoc, flat_map, map, refl, sym, ap, ◌∙◌, arith}
use Rattle.std.specs.Char.{digit_char, is_ascii_control}
use Rattle.std.specs.List.{list_any}
use Rattle.std.proofs.lemmas.Bool.{cond-false, cond-true, or_parts}
use Rattle.std.proofs.lemmas.Grind.{flat_map-append}
use Rattle.std.proofs.lemmas.List.{map-append}
use Rattle.std.proofs.lemmas.List.Concat.{flat_map_single}
use Rattle.std.proofs.lemmas.Option.{cond_some}
use Rattle.json.specs.Print.{escape, escape_byte, escape_letter}
use Rattle.smap_text.specs.Shown.{shown, shown_byte}
use Rattle.smap_printing.specs.Private.Escapes.{is_escaped, short_escape, shown_piece}

-- a text in which each byte stands for itself
pub same_text : (f : ℕ → List ℕ) (test : ℕ → Bool) → ((byte : ℕ) → test byte ≡ false → f byte ≡ byte ∷ []) → (text : List ℕ)
    → list_any test text ≡ false → flat_map f text ≡ text
same_text f test same [] none = refl
same_text f test same (byte ∷ text) none =
    let parts = or_parts (test byte) (list_any test text) none in
    ap (λ l. l ++ flat_map f text) (same byte parts.0) ∙ ap (λ l. byte ∷ l) (same_text f test same text parts.1)

-- ---- as text

pub shown_is : (text : List ℕ) → flat_map shown_piece text ≡ shown text
unfolding shown
shown_is text = flat_map_single shown_byte text

plain_shown : (byte : ℕ) → is_ascii_control byte ≡ false → shown_piece byte ≡ byte ∷ []
plain_shown byte plain = ap (λ b. b ∷ []) (cond-false (is_ascii_control byte) 63 byte plain)

pub plain_text : (text : List ℕ) → list_any is_ascii_control text ≡ false → text ≡ shown text
plain_text text none = sym (same_text shown_piece is_ascii_control plain_shown text none) ∙ shown_is text

-- two texts print as one
pub shown_joined : (one other : List ℕ) → shown one ++ shown other ≡ shown (one ++ other)
unfolding shown
shown_joined one other = sym (map-append shown_byte one other)

-- ---- as JSON

pub escape_both : (one other rest : List ℕ) → escape one ++ (escape other ++ rest) ≡ escape (one ++ other) ++ rest
escape_both one other rest = sym (append_assoc (escape one) (escape other) rest) ∙ ap (λ l. l ++ rest) (sym (flat_map-append escape_byte one other))

none_at : (found : ℕ) (has : Bool) → cond has (Some found) None ≡ None → has ≡ false
none_at found true is = cc
none_at found false is = refl

pub escaped_short : (byte letter : ℕ) → Some letter ≡ short_escape byte → 92 ∷ letter ∷ [] ≡ escape_byte byte
unfolding escape_byte
escaped_short byte letter is =
    let at = cond_some (ltb 0 (escape_letter byte)) (escape_letter byte) letter (sym is) in
    sym (cond-true (ltb 0 (escape_letter byte)) (92 ∷ escape_letter byte ∷ []) _ at.0 ∙ ap (λ l. 92 ∷ l ∷ []) at.1)

pub escaped_number : (byte : ℕ) → None ≡ short_escape byte → ltb byte 32 ≡ true
    → 92 ∷ 117 ∷ 48 ∷ 48 ∷ digit_char (byte / 16) ∷ digit_char (byte % 16) ∷ [] ≡ escape_byte byte
unfolding escape_byte
escaped_number byte none small =
    let long = none_at (escape_letter byte) (ltb 0 (escape_letter byte)) (sym none) in
    sym (cond-false (ltb 0 (escape_letter byte)) _ _ long ∙ cond-true (ltb byte 32) _ (byte ∷ []) small)

pub escaped_plain : (byte : ℕ) → None ≡ short_escape byte → ltb byte 32 ≡ false → byte ∷ [] ≡ escape_byte byte
unfolding escape_byte
escaped_plain byte none large =
    let long = none_at (escape_letter byte) (ltb 0 (escape_letter byte)) (sym none) in
    sym (cond-false (ltb 0 (escape_letter byte)) _ _ long ∙ cond-false (ltb byte 32) _ (byte ∷ []) large)

-- a byte from a space on, but a quote and a backslash, has no short escape
no_letter : (byte : ℕ) → (byte == 34) ≡ false → (byte == 92) ≡ false → ltb byte 32 ≡ false → escape_letter byte ≡ 0
no_letter byte quote slash large = grind arith

plain_escaped : (byte : ℕ) → is_escaped byte ≡ false → escape_byte byte ≡ byte ∷ []
plain_escaped byte plain =
    let large = or_parts (ltb byte 32 || byte == 34) (byte == 92) plain in
    let quote = or_parts (ltb byte 32) (byte == 34) large.0 in
    let letter = no_letter byte quote.1 large.1 quote.0 in
    sym (escaped_plain byte (sym (ap (λ l. cond (ltb 0 l) (Some l) None) letter)) quote.0)

pub plain_json : (text : List ℕ) → list_any is_escaped text ≡ false → text ≡ escape text
plain_json text none = sym (same_text escape_byte is_escaped plain_escaped text none)
