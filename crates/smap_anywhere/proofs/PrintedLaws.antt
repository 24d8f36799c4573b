-- What is printed in a place's stead stands anywhere in a string of JSON.
use Rattle.std.proofs.Common.{◌≡◌, ◌≢◌, ◌==◌, ◌&&◌, ◌||◌, ◌<◌, ◌≤◌, ◌+◌, ◌-◌, ◌/◌, ◌%◌, ◌++◌, inl, inr, ℕ, zero, suc, Bool, true, false, cond, List, [], ◌∷◌, Option, Some, None, ap, arith, codes, length, leb, refl, subst, ◌∙◌}
use Rattle.std.specs.Prelude.{not, option_and_then, slice_get}
use Rattle.std.specs.Char.{is_ascii_control}
use Rattle.std.specs.Fmt.{decimal, digit_glyph, digits, digits_onto}
use Rattle.std.specs.Int.{is_in_range}
use Rattle.std.specs.List.{list_any}
use Rattle.std.proofs.Math.Nat.{mod-lt}
use Rattle.std.proofs.lemmas.Bool.{cases_lt, eq-eqb, le-leb, lt-ltb, ne_eqb, or_parts}
use Rattle.smap_index.specs.declared.answer.Answer.{Answer}
use Rattle.smap_index.specs.declared.answer.Answer.TheVariants.{Found, Nothing, Unmapped}
use Rattle.smap_pairs.specs.Json.{all_may_stand, may_stand, past, past_all}
use Rattle.smap_pairs.specs.Json.InString.{between}
use Rattle.smap_pairs.proofs.JsonLaws.{past_byte}
use Rattle.smap_record.specs.Record.{MapRecord, answer_of_map}
use Rattle.smap_record.specs.Written.{is_ignored_where, text_of_source}
use Rattle.smap_trace.specs.Rewritten.{SourceLocation, location_of_answer, location_text, name_in, printable}
use Rattle.smap_anywhere.specs.Parts.{PlaceUrl}
use Rattle.smap_anywhere.specs.Replaced.{is_quoting, quotable, replacement, text_named, text_of_original}

-- ---- plain bytes

-- a byte is one by itself in a string of JSON: no control byte, no `"` and no `\`
abbrev pub IsPlain : ℕ → Type 0
IsPlain byte = (32 ≤ byte) × (byte ≢ 34) × (byte ≢ 92)

abbrev pub ArePlain : List ℕ → Type 0
ArePlain [] = Unit {0}
ArePlain (byte ∷ text) = IsPlain byte × ArePlain text

plain_both : (first second : List ℕ) → ArePlain first → ArePlain second → ArePlain (first ++ second)
plain_both [] second one more = more
plain_both (byte ∷ first) second one more = (one.0, plain_both first second one.1 more)

plain_stands : (byte : ℕ) → IsPlain byte → may_stand between byte ≡ true
plain_stands byte plain = ap (λ b. b && not (byte == 34)) (le-leb 32 byte plain.0) ∙ ap not (ne_eqb byte 34 plain.1)

pub plain_stay : (text : List ℕ) → ArePlain text → all_may_stand between text ≡ true
plain_stay [] plain = refl
plain_stay (byte ∷ text) plain =
    ap (λ b. b && all_may_stand (past between byte) text) (plain_stands byte plain.0)
    ∙ ap (λ state. all_may_stand state text) (past_byte byte (ne_eqb byte 92 plain.0.2)) ∙ plain_stay text plain.1

pub plain_between : (text : List ℕ) → ArePlain text → past_all between text ≡ between
plain_between [] plain = refl
plain_between (byte ∷ text) plain =
    ap (λ state. past_all state text) (past_byte byte (ne_eqb byte 92 plain.0.2)) ∙ plain_between text plain.1

-- ---- numbers

glyph_plain : (d : ℕ) → d < 10 → IsPlain (digit_glyph false d)
glyph_plain d few =
    let same : digit_glyph false d ≡ 48 + d = ap (λ b. cond b (48 + d) (87 + d)) (lt-ltb d 10 few) in
    (omega (arith, same), (λ is. omega (arith, same, is)), (λ is. omega (arith, same, is, few)))

onto_plain : (most n : ℕ) (text : List ℕ) → ArePlain text → ArePlain (digits_onto most 10 false n text)
onto_plain zero n text plain = plain
onto_plain (suc most) n text plain = go (n / 10 == 0) (onto_plain most (n / 10) (digit_glyph false (n % 10) ∷ text) (one, plain))
  where
    one : IsPlain (digit_glyph false (n % 10))
    one = glyph_plain (n % 10) (mod-lt n (omega arith))

    go : (b : Bool) → ArePlain (digits_onto most 10 false (n / 10) (digit_glyph false (n % 10) ∷ text))
        → ArePlain (cond b (digit_glyph false (n % 10) ∷ text) (digits_onto most 10 false (n / 10) (digit_glyph false (n % 10) ∷ text)))
    go true more = (one, plain)
    go false more = more

decimal_plain : (n : ℕ) → ArePlain (decimal n)
unfolding digits
decimal_plain n = onto_plain 64 n [] tt

-- ---- names

low_is_control : (byte : ℕ) → byte < 32 → is_ascii_control byte ≡ true
low_is_control byte low =
    ap (λ b. b || is_in_range 127 127 byte) (ap (λ b. b && leb byte 31) (le-leb 0 byte (omega arith)) ∙ le-leb byte 31 (omega (arith, low)))

name_plain : (name : List ℕ) → list_any is_ascii_control name ≡ false → list_any is_quoting name ≡ false → ArePlain name
name_plain [] control quoting = tt
name_plain (byte ∷ name) control quoting =
    let controls = or_parts (is_ascii_control byte) (list_any is_ascii_control name) control in
    let quotes = or_parts (is_quoting byte) (list_any is_quoting name) quoting in
    let of = or_parts (byte == 34) (byte == 92) quotes.0 in (
      (
        elim (cases_lt byte 32) [
          | inl low ↦ let on = low_is_control byte low in let off = controls.0 in cc
          | inr least ↦ least
        ],
        (λ is. let on : (byte == 34) ≡ true = eq-eqb byte 34 is in let off = of.0 in cc),
        (λ is. let on : (byte == 92) ≡ true = eq-eqb byte 92 is in let off = of.1 in cc),
      ),
      name_plain name controls.1 quotes.1,
    )

location_plain : (name : List ℕ) (line column : ℕ) → ArePlain name → ArePlain (location_text name line column)
location_plain name line column plain =
    let colon : ArePlain (codes ":") = ((omega arith, (λ is. omega (arith, is)), (λ is. omega (arith, is))), tt) in
    plain_both (name ++ codes ":" ++ decimal line ++ codes ":") (decimal column)
    (plain_both (name ++ codes ":" ++ decimal line) (codes ":")
    (plain_both (name ++ codes ":") (decimal line) (plain_both name (codes ":") plain colon) (decimal_plain line)) colon) (decimal_plain column)

named_plain : (location : SourceLocation) (name : Option (List ℕ)) (text : List ℕ) → text_named location (quotable (printable name)) ≡ Some text → ArePlain text
named_plain location None text is = cc
named_plain location (Some name) text is = go (length name == 0 || list_any is_ascii_control name) refl is
  where
    unquoted : (b : Bool) → list_any is_quoting name ≡ b → list_any is_ascii_control name ≡ false
        → text_named location (cond b None (Some name)) ≡ Some text → ArePlain text
    unquoted true on control is = cc
    unquoted false off control is =
        let same : location_text name location.line location.column ≡ text = cc in
        subst ArePlain same (location_plain name location.line location.column (name_plain name control off))

    go : (b : Bool) → (length name == 0 || list_any is_ascii_control name) ≡ b → text_named location (quotable (cond b None (Some name))) ≡ Some text → ArePlain text
    go true on is = cc
    go false off is =
        unquoted (list_any is_quoting name) refl (or_parts (length name == 0) (list_any is_ascii_control name) off).1 is

answer_plain : (stated : MapRecord) (answer : Answer) (text : List ℕ) → text_of_original (location_of_answer stated answer) ≡ Some text → ArePlain text
answer_plain stated Nothing text is = cc
answer_plain stated (Unmapped column) text is = cc
answer_plain stated (Found column origin) text is =
    let source = slice_get stated.sources origin.source in
    let location : SourceLocation = record { name = name_in source; ignored = is_ignored_where source; line = origin.line + 1; column = origin.column + 1 } in
    named_plain location (option_and_then text_of_source source) text is

pub replacement_plain : (stated : Option MapRecord) (place : PlaceUrl) (text : List ℕ) → replacement stated place ≡ Some text → ArePlain text
unfolding replacement
replacement_plain None place text is = cc
replacement_plain (Some stated) place text is = answer_plain stated (answer_of_map stated (place.line - 1) (place.column - 1)) text is
