-- How the bytes of a text show its first character.
use Rattle.std.proofs.Common.{◌≡◌, ◌<◌, ◌≤◌, ◌++◌, ℕ, false, eqb, List, [], ◌∷◌, length, get_or, refl, sym, ap, ◌∙◌, arith, ⊎_elim}
use Rattle.std.specs.Str.{IsUtf8, chars}
use Rattle.std.proofs.lemmas.Bool.{cases_Bool, eqb-true, eqb-false, ne_eqb}
use Rattle.std.proofs.lemmas.List.{length-append}
use Rattle.std.proofs.lemmas.Str.{byte_from_char, char_from_byte, chars-encodes, length-encode, len_utf8_bounds}
use lib.Utf8.{encode, encodes}
use Rattle.smap_text.specs.Lines.{has_line_feed_first}

first_byte : (c : ℕ) (cs : List ℕ) → eqb c 0x0A ≡ eqb (get_or (encode c ++ encodes cs) 0 0) 0x0A
first_byte c cs = ⊎_elim
    (λ is. let same : c ≡ 0x0A = eqb-true c 0x0A is in
    is ∙ sym (ap (λ n. eqb n 0x0A) (byte_from_char (encode c ++ encodes cs) (encodes cs) c refl (omega arith) ∙ same)))
    (λ other. other ∙ sym (ne_eqb (get_or (encode c ++ encodes cs) 0 0) 0x0A (λ e.
    let some : 0 < length (encode c ++ encodes cs) = omega (arith, length-append (encode c) (encodes cs), length-encode c, (len_utf8_bounds c).0) in
    eqb-false c 0x0A other (char_from_byte (encode c ++ encodes cs) (encodes cs) c refl (omega arith) some ∙ e))))
    (cases_Bool (eqb c 0x0A))

spelled : (cs : List ℕ) → has_line_feed_first cs ≡ eqb (get_or (encodes cs) 0 0) 0x0A
spelled [] = refl
spelled (c ∷ cs) = first_byte c cs

-- a text begins with an LF where its first byte is that
pub line_feed_first : (text : List ℕ) → IsUtf8 text → has_line_feed_first (chars text) ≡ eqb (get_or text 0 0) 0x0A
line_feed_first text is =
    ap has_line_feed_first (ap chars (sym is.1.1) ∙ chars-encodes is.0 is.1.0) ∙ spelled is.0 ∙ ap (λ l. eqb (get_or l 0 0) 0x0A) is.1.1

pub none_first : (text : List ℕ) → length text ≤ 0 → eqb (get_or text 0 0) 0x0A ≡ false
none_first [] none = refl
none_first (b ∷ bs) none = absurd (omega arith)
