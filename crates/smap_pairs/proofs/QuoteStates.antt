-- A `"` in a line counts as one: it stands by itself, or is the last byte of an escape of one.
use Rattle.std.proofs.Common.{◌≡◌, ◌≢◌, ◌++◌, ◌+◌, ◌-◌, ◌<◌, ◌≤◌, ◌⊎◌, inl, inr, ℕ, zero, suc, Bool, true, false, List, [], ◌∷◌, map, take, drop, length, get_or, ap, refl, sym, ◌∙◌, arith, Option, Some, None, subst}
use Rattle.std.specs.Prelude.{if◌then◌else◌, not, slice_index, ◌==◌, ◌||◌}
use Rattle.std.specs.Char.{is_ascii_hexdigit}
use Rattle.std.proofs.lemmas.Bool.{and_parts, eqb-true, ne_eqb}
use Rattle.smap_pairs.specs.Colours.{colour_behind, colour_from, is_parameter}
use Rattle.smap_pairs.specs.Escapes.{ended_by, ending_of, escape_from, escape_of, found, is_backslash, meant_by, number_of, octal, of_size, read_on}
use Rattle.smap_pairs.specs.Seen.{by_itself, bytes_of, coloured, counted, counted_from, counts_as, ends_with_drive, ends_with_file, escape_or_colour, is_apostrophe, is_before_path, is_before_root, seen_of, settled, settled_from, token_by, token_bytes, token_of, token_size, within}
use Rattle.smap_pairs.specs.declared.escapes.Escape.{Escape}
use Rattle.smap_pairs.specs.declared.seen.SeenByte.{SeenByte}
use Rattle.smap_pairs.specs.declared.token.Token.{Token}
use Rattle.smap_pairs.specs.declared.token.Token.TheVariants.{Bytes, Colour, Escaped}
use Rattle.smap_pairs.proofs.EscapeStates.{AreDigits, number_digits}
use Rattle.smap_pairs.proofs.OpenStates.{settled_size}
use Rattle.smap_pairs.proofs.SeenBytesLaws.{settled_byte}
use Rattle.smap_pairs.proofs.TokenLaws.{AreInner, Fits, IsClear, either, octal_is, size_of, token_fits}

-- ---- escapes

-- none of the first so many bytes of a text is a `"`
abbrev pub HasNone : (many : ℕ) → (text : List ℕ) → Type 0
HasNone zero text = Unit {0}
HasNone (suc many) [] = Unit {0}
HasNone (suc many) (byte ∷ text) = (byte ≢ 34) × HasNone many text

-- the last of them may be one, where they mean it
abbrev pub MayEnd : (many : ℕ) → (text : List ℕ) → (means : ℕ) → Type 0
MayEnd zero text means = Unit {0}
MayEnd (suc many) [] means = Unit {0}
MayEnd (suc many) (byte ∷ text) means = (byte ≡ 34 → (many ≡ 0) × (means ≡ 34)) × MayEnd many text means

none_end : (many : ℕ) (text : List ℕ) (means : ℕ) → HasNone many text → MayEnd many text means
none_end zero text means none = tt
none_end (suc many) [] means none = tt
none_end (suc many) (byte ∷ text) means none = ((λ is. absurd (none.0 is)), none_end many text means none.1)

ends_none : (many : ℕ) (text : List ℕ) (means : ℕ) → means ≢ 34 → MayEnd many text means → HasNone many text
ends_none zero text means other may = tt
ends_none (suc many) [] means other may = tt
ends_none (suc many) (byte ∷ text) means other may = ((λ is. other (may.0 is).1), ends_none many text means other may.1)

digits_none : (many : ℕ) (text : List ℕ) → AreDigits many text → HasNone many text
digits_none zero text are = tt
digits_none (suc many) [] are = absurd are
digits_none (suc many) (byte ∷ text) are =
    ((λ is. let none : is_ascii_hexdigit byte ≡ false = ap is_ascii_hexdigit is in let one = are.0 in cc), digits_none many text are.1)

ending_may : (text : List ℕ) (e : Escape) → ending_of text ≡ Some e → (0 < e.size) × MayEnd e.size text e.means
unfolding ending_of
ending_may [] e is = cc
ending_may (byte ∷ text) e is =
    elim (either (byte == 117) (of_size 5 (number_of 4 text)) (if byte == 120 then of_size 3 (number_of 2 text) else of_size 1 (meant_by byte)) e is) [
      | inl (u, four) ↦
          let sized = size_of 5 (number_of 4 text) e four in
          let begins = eqb-true byte 117 u in
          rw sized.0 (omega arith, none_end 5 (byte ∷ text) e.means ((λ is. omega (arith, begins, is)), digits_none 4 text (number_digits 4 text sized.1.0 sized.1.1)))
      | inr (not_u, rest) ↦ elim (either (byte == 120) (of_size 3 (number_of 2 text)) (of_size 1 (meant_by byte)) e rest) [
        | inl (x, two) ↦
            let sized = size_of 3 (number_of 2 text) e two in
            let begins = eqb-true byte 120 x in
            rw sized.0 (omega arith, none_end 3 (byte ∷ text) e.means ((λ is. omega (arith, begins, is)), digits_none 2 text (number_digits 2 text sized.1.0 sized.1.1)))
        | inr (not_x, one) ↦
            let sized = size_of 1 (meant_by byte) e one in
            rw sized.0 (omega arith, ((λ is. (refl, quote_means is)), tt))
      ]
    ]
  where
    quote_means : byte ≡ 34 → e.means ≡ 34
    quote_means same =
        let here : ending_of (34 ∷ text) ≡ Some e = ap (λ b. ending_of (b ∷ text)) (sym same) ∙ is in
        let one : Some (record { size = 1; means = 34 }) ≡ Some e = here in
        let equal : record { size = 1; means = 34 } ≡ e = cc in ap (λ (x : Escape). x.means) (sym equal)

-- the longest escape is the one before, or has some more bytes of the text, of which the last may be a `"`
abbrev pub EndsQuoted : (size : ℕ) → (before : Option Escape) → (text : List ℕ) → (e : Escape) → Type 0
EndsQuoted size before text e = (before ≡ Some e) ⊎ ((n : ℕ) × (e.size ≡ size + n) × MayEnd n text e.means)

one_further : (size byte : ℕ) (before : Option Escape) (text : List ℕ) (e : Escape) → byte ≢ 34 → EndsQuoted (size + 1) before text e
    → EndsQuoted size before (byte ∷ text) e
one_further size byte before text e other (inl is) = inl is
one_further size byte before text e other (inr (n, is, may)) = inr (suc n, omega arith, ((λ is. absurd (other is)), may))

less_one : (n byte : ℕ) (text : List ℕ) → 0 < n → HasNone n (byte ∷ text) → (byte ≢ 34) × HasNone (n - 1) text
less_one zero byte text some none = absurd (omega arith)
less_one (suc n) byte text some none = let same : suc n - 1 ≡ n = omega arith in rw same none

module _ (size byte : ℕ) (text : List ℕ) (e : Escape)
    (rest : (skip : ℕ) (before : Option Escape) → HasNone skip text → escape_from (size + 1) skip before text ≡ Some e → EndsQuoted (size + 1) before text e) where
  ends_now : (before : Option Escape) (longer ending : Escape) → longer.size ≡ size + ending.size → longer.means ≡ ending.means
      → MayEnd ending.size (byte ∷ text) ending.means → Some longer ≡ Some e → EndsQuoted size before (byte ∷ text) e
  ends_now before longer ending sized means may is =
      let same : longer ≡ e = cc in
      let size_is : longer.size ≡ e.size = ap (λ (x : Escape). x.size) same in
      let means_is : longer.means ≡ e.means = ap (λ (x : Escape). x.means) same in
      inr (ending.size, sym size_is ∙ sized, subst (MayEnd ending.size (byte ∷ text)) (sym means ∙ means_is) may)

  found_ends : (b : Bool) (before : Option Escape) (longer ending : Escape) → longer.size ≡ size + ending.size → longer.means ≡ ending.means
      → 0 < ending.size → MayEnd ending.size (byte ∷ text) ending.means → is_backslash ending.means ≡ b
      → found b (λ before. escape_from (size + 1) (ending.size - 1) before text) longer ≡ Some e → EndsQuoted size before (byte ∷ text) e
  found_ends false before longer ending sized means some may slash is = ends_now before longer ending sized means may is
  found_ends true before longer ending sized means some may slash is =
      let backslash = eqb-true ending.means 92 slash in
      let none = less_one ending.size byte text some (ends_none ending.size (byte ∷ text) ending.means (λ quote. omega (arith, backslash, quote)) may) in
      elim (rest (ending.size - 1) (Some longer) none.1 is) [
        | inl same ↦ ends_now before longer ending sized means may same
        | inr (n, size_is, more) ↦ inr (suc n, omega arith, ((λ is. absurd (none.0 is)), more))
      ]

  ended_ends : (before : Option Escape) (ending : Option Escape) → ending_of (byte ∷ text) ≡ ending
      → ended_by size before (λ skip before. escape_from (size + 1) skip before text) ending ≡ Some e → EndsQuoted size before (byte ∷ text) e
  ended_ends before None none is = inl is
  ended_ends before (Some ending) one is =
      let may = ending_may (byte ∷ text) ending one in
      found_ends (is_backslash ending.means) before record { size = size + ending.size; means = ending.means } ending refl refl may.0 may.1 refl is

  read_ends : (b : Bool) (before : Option Escape) → is_backslash byte ≡ b
      → read_on b size before (λ skip before. escape_from (size + 1) skip before text) (ending_of (byte ∷ text)) ≡ Some e
      → EndsQuoted size before (byte ∷ text) e
  read_ends true before slash is =
      let begins = eqb-true byte 92 slash in one_further size byte before text e (λ quote. omega (arith, begins, quote)) (rest 0 before tt is)
  read_ends false before other is = ended_ends before (ending_of (byte ∷ text)) refl is

escape_ends : (size skip : ℕ) (before : Option Escape) (text : List ℕ) (e : Escape) → HasNone skip text
    → escape_from size skip before text ≡ Some e → EndsQuoted size before text e
unfolding escape_from
escape_ends size skip before [] e none is = inl is
escape_ends size (suc skip) before (byte ∷ text) e none is =
    one_further size byte before text e none.0 (escape_ends (size + 1) skip before text e none.1 is)
escape_ends size zero before (byte ∷ text) e none is =
    read_ends size byte text e (λ skip before. escape_ends (size + 1) skip before text e) (is_backslash byte) before refl is

octal_none : (text : List ℕ) (m : ℕ) → octal (35 ∷ text) ≡ Some m → HasNone 4 (35 ∷ text)
octal_none [] m is = let digits = octal_is (35 ∷ []) m is in absurd (omega arith)
octal_none (a ∷ []) m is = let digits = octal_is (35 ∷ a ∷ []) m is in absurd (omega arith)
octal_none (a ∷ b ∷ []) m is = let digits = octal_is (35 ∷ a ∷ b ∷ []) m is in absurd (omega arith)
octal_none (a ∷ b ∷ c ∷ text) m is =
    let digits = octal_is (35 ∷ a ∷ b ∷ c ∷ text) m is in (
      (λ quote. omega (arith, quote)),
      ((λ quote. omega (arith, quote, digits.0)), ((λ quote. omega (arith, quote, digits.1)), ((λ quote. omega (arith, quote, digits.3)), tt))),
    )

escape_may : (text : List ℕ) (e : Escape) → escape_of text ≡ Some e → MayEnd e.size text e.means
unfolding escape_of
escape_may [] e is = cc
escape_may (byte ∷ text) e is =
    elim (either (is_backslash byte) (escape_from 0 0 None (byte ∷ text)) (if byte == 35 then of_size 4 (octal (byte ∷ text)) else None) e is) [
      | inl (slash, longest) ↦ elim (escape_ends 0 0 None (byte ∷ text) e tt longest) [
        | inl none ↦ cc
        | inr (n, size_is, may) ↦ let same : e.size ≡ n = omega arith in rw same may
      ]
      | inr (other, rest) ↦ elim (either (byte == 35) (of_size 4 (octal (byte ∷ text))) None e rest) [
        | inr (none, nothing) ↦ cc
        | inl (sharp, digits) ↦
            let sized = size_of 4 (octal (byte ∷ text)) e digits in
            let begins = eqb-true byte 35 sharp in
            rw sized.0 (rw begins (none_end 4 (35 ∷ text) e.means (octal_none text sized.1.0 (ap (λ b. octal (b ∷ text)) (sym begins) ∙ sized.1.1))))
      ]
    ]

-- ---- colours

parameters_none : (size many : ℕ) (text : List ℕ) (end : ℕ) → colour_from size many text ≡ Some end → (n : ℕ) × (end ≡ size + n) × HasNone n text
unfolding colour_from
parameters_none size zero text end is = cc
parameters_none size (suc many) [] end is = cc
parameters_none size (suc many) (byte ∷ text) end is =
    elim (either (byte == 109) (Some (size + 1)) (if is_parameter byte then colour_from (size + 1) many text else None) end is) [
      | inl (m, ends) ↦
          let last : size + 1 ≡ end = cc in let begins = eqb-true byte 109 m in (1, omega arith, ((λ quote. omega (arith, begins, quote)), tt))
      | inr (other, rest) ↦ elim (either (is_parameter byte) (colour_from (size + 1) many text) None end rest) [
        | inl (one, more) ↦
            let none = parameters_none (size + 1) many text end more in
            (suc none.0, omega arith, ((λ quote. let off : is_parameter byte ≡ false = ap is_parameter quote in cc), none.2))
        | inr (other, none) ↦ cc
      ]
    ]

colour_none : (size : ℕ) (text : List ℕ) (end : ℕ) → colour_behind size text ≡ Some end → (n : ℕ) × (end ≡ size + n) × HasNone n text
unfolding colour_behind
colour_none size [] end is = cc
colour_none size (byte ∷ text) end is =
    elim (either (byte == 91) (colour_from (size + 1) 33 text) None end is) [
      | inl (bracket, behind) ↦
          let none = parameters_none (size + 1) 33 text end behind in
          let begins = eqb-true byte 91 bracket in (suc none.0, omega arith, ((λ quote. omega (arith, begins, quote)), none.2))
      | inr (other, none) ↦ cc
    ]

-- ---- tokens

none_both : (size n : ℕ) (text : List ℕ) → HasNone size text → HasNone n (drop size text) → HasNone (size + n) text
none_both zero n text first second = let same : 0 + n ≡ n = omega arith in rw same second
none_both (suc size) n [] first second = let same : suc size + n ≡ suc (size + n) = omega arith in rw same tt
none_both (suc size) n (byte ∷ text) first second =
    let same : suc size + n ≡ suc (size + n) = omega arith in rw same (first.0, none_both size n text first.1 second)

-- an escape or a colour has none, but an escape as its last byte, which it means then
abbrev pub IsQuoted : Token → (text : List ℕ) → Type 0
IsQuoted (Bytes size) text = Unit {0}
IsQuoted (Escaped escape) text = MayEnd escape.size text escape.means
IsQuoted (Colour size) text = HasNone size text

coloured_quoted : (size : ℕ) (otherwise : Token) (text : List ℕ) (colour : Option ℕ) → colour_behind size (drop size text) ≡ colour
    → HasNone size text → IsQuoted otherwise text → IsQuoted (coloured otherwise colour) text
coloured_quoted size otherwise text None is none quoted = quoted
coloured_quoted size otherwise text (Some end) is none quoted =
    let behind = colour_none size (drop size text) end is in rw behind.1 (none_both size behind.0 text none behind.2)

esc_quoted : (is_esc : Bool) (size : ℕ) (otherwise : Token) (text : List ℕ) → (is_esc ≡ true → HasNone size text) → IsQuoted otherwise text
    → IsQuoted (escape_or_colour is_esc size otherwise text) text
esc_quoted false size otherwise text none quoted = quoted
esc_quoted true size otherwise text none quoted = coloured_quoted size otherwise text (colour_behind size (drop size text)) refl (none refl) quoted

token_by_quoted : (byte : ℕ) (text : List ℕ) (escape : Option Escape) → escape_of (byte ∷ text) ≡ escape → IsQuoted (token_by (byte ∷ text) escape) (byte ∷ text)
token_by_quoted byte text None is =
    esc_quoted (byte == 27) 1 (bytes_of (byte ∷ text)) (byte ∷ text)
    (λ esc. let begins = eqb-true byte 27 esc in ((λ quote. omega (arith, begins, quote)), tt)) tt
token_by_quoted byte text (Some escape) is =
    let may = escape_may (byte ∷ text) escape is in
    esc_quoted (escape.means == 27) escape.size (Escaped escape) (byte ∷ text)
    (λ esc. let means = eqb-true escape.means 27 esc in ends_none escape.size (byte ∷ text) escape.means (λ quote. omega (arith, means, quote)) may) may

token_quoted : (byte : ℕ) (text : List ℕ) → IsQuoted (token_of (byte ∷ text)) (byte ∷ text)
unfolding token_of
token_quoted byte text = token_by_quoted byte text (escape_of (byte ∷ text)) refl

-- ---- what is seen

-- each `"` counts as one, and what ends with a byte has none before that; so many bytes before these are none
abbrev pub AreQuoted : (clear : ℕ) → List SeenByte → Type 0
AreQuoted clear [] = Unit {0}
AreQuoted clear (one ∷ seen) = (one.size ≤ clear + 1) × (one.byte ≡ 34 → one.counts ≡ 34) × AreQuoted (if one.byte == 34 then 0 else suc clear) seen

plain_quoted : (clear : ℕ) (bytes : List ℕ) (rest : List SeenByte) → ((clear : ℕ) → AreQuoted clear rest) → AreQuoted clear (map by_itself bytes ++ rest)
plain_quoted clear [] rest more = more clear
plain_quoted clear (byte ∷ bytes) rest more = (omega arith, (λ is. is), plain_quoted (if byte == 34 then 0 else suc clear) bytes rest more)

inner_quoted : (clear many means : ℕ) (text : List ℕ) (last : SeenByte) (rest : List SeenByte) → AreInner (suc many) text → last.byte ≡ slice_index text many
    → MayEnd (suc many) text means → last.size ≤ clear + (many + 1) → (last.byte ≡ 34 → means ≡ 34 → last.counts ≡ 34) → ((clear : ℕ) → AreQuoted clear rest)
    → AreQuoted clear ((map within (take many text) ++ last ∷ []) ++ rest)
inner_quoted clear many means [] last rest inner is may sized counts more = absurd inner
inner_quoted clear zero means (byte ∷ text) last rest inner is may sized counts more =
    (omega (arith, sized), (λ quote. counts quote (may.0 (sym is ∙ quote)).1), more _)
inner_quoted clear (suc many) means (byte ∷ text) last rest inner is may sized counts more =
    let other : byte ≢ 34 = λ quote. let none = (may.0 quote).0 in omega (arith, none) in (
      omega arith,
      (λ quote. absurd (other quote)),
      rw (ne_eqb byte 34 other) (inner_quoted (suc clear) many means text last rest inner.1 is may.1 (omega (arith, sized)) counts more),
    )

counted_quoted : (clear size counts means : ℕ) (is_edge : Bool) (text : List ℕ) (rest : List SeenByte) → IsClear size text → MayEnd size text means
    → (means ≡ 34 → counts ≡ 34) → ((clear : ℕ) → AreQuoted clear rest) → AreQuoted clear (counted size counts is_edge text ++ rest)
counted_quoted clear zero counts means is_edge text rest is may same more = absurd (omega arith)
counted_quoted clear (suc many) counts means is_edge text rest is may same more =
    let back : suc many - 1 ≡ many = omega arith in
    rw back (inner_quoted clear many means text _ rest is.1 refl may (omega arith) (λ quote means. same means) more)

token_seen : (clear : ℕ) (token : Token) (text : List ℕ) (rest : List SeenByte) → Fits token text → IsQuoted token text
    → ((clear : ℕ) → AreQuoted clear rest) → AreQuoted clear (token_bytes token text ++ rest)
token_seen clear (Bytes size) text rest fits is more = plain_quoted clear (take size text) rest more
token_seen clear (Escaped escape) text rest fits is more =
    counted_quoted clear escape.size (counts_as escape.means) escape.means _ text rest fits is (λ quote. ap counts_as quote) more
token_seen clear (Colour size) text rest fits is more =
    counted_quoted clear size 255 0 true text rest fits (none_end size text 0 is) (λ quote. absurd (omega (arith, quote))) more

all_quoted : (clear skip : ℕ) (text : List ℕ) → AreQuoted clear (counted_from skip text)
unfolding counted_from
all_quoted clear skip [] = tt
all_quoted clear (suc skip) (byte ∷ text) = all_quoted clear skip text
all_quoted clear zero (byte ∷ text) =
    token_seen clear (token_of (byte ∷ text)) (byte ∷ text) _ (token_fits byte text) (token_quoted byte text)
    (λ clear. all_quoted clear (token_size (token_of (byte ∷ text)) - 1) text)

settled_counts : (before : List SeenByte) (one : SeenByte) (text : List ℕ) → (one.byte ≡ 34 → one.counts ≡ 34)
    → (settled before one text).byte ≡ 34 → (settled before one text).counts ≡ 34
unfolding settled
settled_counts before one text counts = go (is_before_path one text) (is_apostrophe before one text) (is_before_root before one text) refl
  where
    go : (path word root : Bool) → is_apostrophe before one text ≡ word
        → (if path then record one { is_edge = not (ends_with_drive before || ends_with_file before) }
        else if word then record one { counts = 226; is_edge = false } else if root then record one { is_edge = true } else one).byte ≡ 34
        → (if path then record one { is_edge = not (ends_with_drive before || ends_with_file before) }
        else if word then record one { counts = 226; is_edge = false } else if root then record one { is_edge = true } else one).counts ≡ 34
    go true word root apostrophe quote = counts quote
    go false true root apostrophe quote =
        let other = eqb-true one.counts 39 (and_parts (one.counts == 39) _ apostrophe).0 in
        let is = counts quote in absurd (omega (arith, other, is))
    go false false true apostrophe quote = counts quote
    go false false false apostrophe quote = counts quote

settled_quoted : (clear : ℕ) (before : List SeenByte) (text : List ℕ) (seen : List SeenByte) → AreQuoted clear seen → AreQuoted clear (settled_from before text seen)
unfolding settled_from
settled_quoted clear before text [] quoted = tt
settled_quoted clear before text (one ∷ seen) quoted = (
  rw (settled_size before one (drop 1 text)) quoted.0,
  settled_counts before one (drop 1 text) quoted.1,
  rw (settled_byte before one (drop 1 text)) (settled_quoted (if one.byte == 34 then 0 else suc clear) (one ∷ before) (drop 1 text) seen quoted.2),
)

line_quoted : (line : List ℕ) → AreQuoted 0 (seen_of line)
unfolding seen_of
line_quoted line = settled_quoted 0 [] line (counted_from 0 line) (all_quoted 0 0 line)

-- ---- one of its bytes

counts_at : (clear at : ℕ) (seen : List SeenByte) (d : SeenByte) → AreQuoted clear seen → at < length seen → (get_or seen at d).byte ≡ 34
    → (get_or seen at d).counts ≡ 34
counts_at clear at [] d quoted within is = absurd (omega (arith, within))
counts_at clear zero (one ∷ seen) d quoted within is = quoted.1 is
counts_at clear (suc at) (one ∷ seen) d quoted within is =
    counts_at (if one.byte == 34 then 0 else suc clear) at seen d quoted.2 (omega (arith, within)) is

clear_within : (clear : ℕ) (quote : Bool) → (if quote then 0 else suc clear) ≤ suc clear
clear_within clear true = omega arith
clear_within clear false = omega arith

size_at : (clear last : ℕ) (seen : List SeenByte) (d : SeenByte) → AreQuoted clear seen → last < length seen → (get_or seen last d).size ≤ clear + last + 1
size_at clear last [] d quoted within = absurd (omega (arith, within))
size_at clear zero (one ∷ seen) d quoted within = omega (arith, quoted.0)
size_at clear (suc last) (one ∷ seen) d quoted within =
    let more = size_at (if one.byte == 34 then 0 else suc clear) last seen d quoted.2 (omega (arith, within)) in
    omega (arith, more, clear_within clear (one.byte == 34))

ends_behind : (clear at last : ℕ) (seen : List SeenByte) (d : SeenByte) → AreQuoted clear seen → at < last → last < length seen
    → (get_or seen at d).byte ≡ 34 → (get_or seen last d).size ≤ last - at
ends_behind clear at last [] d quoted order within is = absurd (omega (arith, within))
ends_behind clear at zero (one ∷ seen) d quoted order within is = absurd (omega (arith, order))
ends_behind clear zero (suc last) (one ∷ seen) d quoted order within is =
    let none : (if one.byte == 34 then 0 else suc clear) ≡ 0 = ap (λ b. if b == 34 then 0 else suc clear) is in
    let more = size_at 0 last seen d (subst (λ n. AreQuoted n seen) none quoted.2) (omega (arith, within)) in omega (arith, more)
ends_behind clear (suc at) (suc last) (one ∷ seen) d quoted order within is =
    let more = ends_behind (if one.byte == 34 then 0 else suc clear) at last seen d quoted.2 (omega (arith, order)) (omega (arith, within)) is in
    omega (arith, more)

-- a `"` of a line counts as one
pub quote_counts : (line : List ℕ) (at : ℕ) (d : SeenByte) → at < length (seen_of line) → (get_or (seen_of line) at d).byte ≡ 34
    → (get_or (seen_of line) at d).counts ≡ 34
quote_counts line at d within is = counts_at 0 at (seen_of line) d (line_quoted line) within is

-- and no escape or colour that ends behind it has it
pub quote_behind : (line : List ℕ) (at last : ℕ) (d : SeenByte) → at < last → last < length (seen_of line) → (get_or (seen_of line) at d).byte ≡ 34
    → (get_or (seen_of line) last d).size ≤ last - at
quote_behind line at last d order within is = ends_behind 0 at last (seen_of line) d (line_quoted line) order within is
