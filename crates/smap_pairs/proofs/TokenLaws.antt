-- What stands in escapes and colours: no `:`, and no digit at their beginning.
use Rattle.std.proofs.Common.{◌≡◌, ◌≢◌, ◌+◌, ◌-◌, ◌*◌, ◌<◌, ◌≤◌, ◌⊎◌, ℕ, zero, suc, Bool, true, false, List, [], ◌∷◌, length, take, drop, ap, refl, sym, ◌∙◌, inl, inr, arith, Option, Some, None, leb}
use Rattle.std.specs.Prelude.{if◌then◌else◌, slice_index, ◌==◌, ◌&&◌}
use Rattle.std.specs.Int.{is_in_range}
use Rattle.std.specs.Char.{digit_value, is_ascii_hexdigit}
use Rattle.std.proofs.lemmas.Bool.{and_parts, eqb-true, leb-true}
use Rattle.smap_pairs.specs.declared.escapes.Escape.{Escape}
use Rattle.smap_pairs.specs.declared.token.Token.{Token}
use Rattle.smap_pairs.specs.declared.token.Token.TheVariants.{Bytes, Colour, Escaped}
use Rattle.smap_pairs.specs.Colours.{colour_behind, colour_from, is_parameter}
use Rattle.smap_pairs.specs.Escapes.{ended_by, ending_of, escape_from, escape_of, found, hexadecimal, is_backslash, meant_by, number_of, octal, of_size, read_on}
use Rattle.smap_pairs.specs.Seen.{bytes_of, coloured, escape_or_colour, token_by, token_of}

-- a byte of an escape or a colour: it is no `:`, and none that counts as nothing by itself
abbrev pub IsInner : ℕ → Type 0
IsInner byte = (byte ≢ 58) × (byte ≢ 255)

-- the first so many bytes of a text stand there, and are such bytes
abbrev pub AreInner : (many : ℕ) → (text : List ℕ) → Type 0
AreInner zero text = Unit {0}
AreInner (suc many) [] = ⊥
AreInner (suc many) (byte ∷ text) = IsInner byte × AreInner many text

-- ---- endings

pub either : {A : Type 0} → (b : Bool) (x y : Option A) (e : A) → (if b then x else y) ≡ Some e
    → ((b ≡ true) × (x ≡ Some e)) ⊎ ((b ≡ false) × (y ≡ Some e))
either true x y e is = inl (refl, is)
either false x y e is = inr (refl, is)

hexadecimal_step : (n byte : ℕ) (digits : List ℕ) (m : ℕ) → hexadecimal n (byte ∷ digits) ≡ Some m
    → IsInner byte × (hexadecimal (16 * n + digit_value byte) digits ≡ Some m)
hexadecimal_step n byte digits m is =
    elim (either (is_ascii_hexdigit byte) (hexadecimal (16 * n + digit_value byte) digits) None m is) [
      | inl (one, more) ↦ (((λ colon. let other = rw colon at one in cc), (λ high. let other = rw high at one in cc)), more)
      | inr (other, none) ↦ cc
    ]

hexadecimal_clear : (n : ℕ) (many : ℕ) (text : List ℕ) (m : ℕ) → many ≤ length text → hexadecimal n (take many text) ≡ Some m → AreInner many text
hexadecimal_clear n zero text m enough is = tt
hexadecimal_clear n (suc many) [] m enough is = absurd (omega arith)
hexadecimal_clear n (suc many) (byte ∷ text) m enough is =
    let step = hexadecimal_step n byte (take many text) m is in
    (step.0, hexadecimal_clear (16 * n + digit_value byte) many text m (omega arith) step.1)

number_clear : (many : ℕ) (text : List ℕ) (m : ℕ) → number_of many text ≡ Some m → AreInner many text
number_clear many text m is =
    elim (either (leb many (length text)) (hexadecimal 0 (take many text)) None m is) [
      | inl (enough, number) ↦ hexadecimal_clear 0 many text m (leb-true _ _ enough) number
      | inr (few, none) ↦ cc
    ]

pub size_of : (size : ℕ) (means : Option ℕ) (e : Escape) → of_size size means ≡ Some e → (e.size ≡ size) × ((m : ℕ) × (means ≡ Some m))
size_of size None e is = cc
size_of size (Some m) e is = (cc, (m, refl))

meant_clear : (byte m : ℕ) → meant_by byte ≡ Some m → IsInner byte
meant_clear byte m is =
    ((λ colon. let none : meant_by byte ≡ None = ap meant_by colon in cc), (λ high. let none : meant_by byte ≡ None = ap meant_by high in cc))

known : (byte other : ℕ) → byte ≡ other → other ≢ 58 → other ≢ 255 → IsInner byte
known byte other same not_colon not_high = ((λ colon. not_colon (sym same ∙ colon)), (λ high. not_high (sym same ∙ high)))

ending_clear : (text : List ℕ) (e : Escape) → ending_of text ≡ Some e → (0 < e.size) × AreInner e.size text
unfolding ending_of
ending_clear [] e is = cc
ending_clear (byte ∷ text) e is =
    elim (either (byte == 117) (of_size 5 (number_of 4 text)) (if byte == 120 then of_size 3 (number_of 2 text) else of_size 1 (meant_by byte)) e is) [
      | inl (u, four) ↦
          let sized = size_of 5 (number_of 4 text) e four in
          rw sized.0 (omega arith, (known byte 117 (eqb-true byte 117 u) (λ e. omega arith) (λ e. omega arith), number_clear 4 text sized.1.0 sized.1.1))
      | inr (not_u, rest) ↦ elim (either (byte == 120) (of_size 3 (number_of 2 text)) (of_size 1 (meant_by byte)) e rest) [
        | inl (x, two) ↦
            let sized = size_of 3 (number_of 2 text) e two in
            rw sized.0 (omega arith, (known byte 120 (eqb-true byte 120 x) (λ e. omega arith) (λ e. omega arith), number_clear 2 text sized.1.0 sized.1.1))
        | inr (not_x, one) ↦
            let sized = size_of 1 (meant_by byte) e one in
            rw sized.0 (omega arith, (meant_clear byte sized.1.0 sized.1.1, tt))
      ]
    ]

-- ---- escapes

-- the longest escape is the one before, or has some more bytes of the text
abbrev pub Reaches : (size : ℕ) → (before : Option Escape) → (text : List ℕ) → (e : Escape) → Type 0
Reaches size before text e = (before ≡ Some e) ⊎ ((n : ℕ) × (e.size ≡ size + n) × (0 < n) × AreInner n text)

behind_first : (n byte : ℕ) (text : List ℕ) → 0 < n → AreInner n (byte ∷ text) → AreInner (n - 1) text
behind_first zero byte text some clear = absurd (omega arith)
behind_first (suc n) byte text some clear = let e : suc n - 1 ≡ n = omega arith in rw e clear.1

one_further : (size byte : ℕ) (before : Option Escape) (text : List ℕ) (e : Escape) → IsInner byte → Reaches (size + 1) before text e
    → Reaches size before (byte ∷ text) e
one_further size byte before text e clear (inl is) = inl is
one_further size byte before text e clear (inr (n, is, some, more)) = inr (suc n, omega arith, omega arith, (clear, more))

first_clear : (n byte : ℕ) (text : List ℕ) → 0 < n → AreInner n (byte ∷ text) → IsInner byte
first_clear zero byte text some clear = absurd (omega arith)
first_clear (suc n) byte text some clear = clear.0

module _ (size byte : ℕ) (text : List ℕ) (e : Escape)
    (rest : (skip : ℕ) (before : Option Escape) → AreInner skip text → escape_from (size + 1) skip before text ≡ Some e → Reaches (size + 1) before text e) where
  reaches_now : (before : Option Escape) (longer ending : Escape) → longer.size ≡ size + ending.size → 0 < ending.size
      → AreInner ending.size (byte ∷ text) → Some longer ≡ Some e → Reaches size before (byte ∷ text) e
  reaches_now before longer ending sized some clear is =
      let same : longer ≡ e = cc in
      let size_is : longer.size ≡ e.size = ap (λ (x : Escape). x.size) same in
      inr (ending.size, sym size_is ∙ sized, some, clear)

  found_reaches : (b : Bool) (before : Option Escape) (longer ending : Escape) → longer.size ≡ size + ending.size → 0 < ending.size
      → AreInner ending.size (byte ∷ text) → found b (λ before. escape_from (size + 1) (ending.size - 1) before text) longer ≡ Some e
      → Reaches size before (byte ∷ text) e
  found_reaches false before longer ending sized some clear is = reaches_now before longer ending sized some clear is
  found_reaches true before longer ending sized some clear is =
      elim (rest (ending.size - 1) (Some longer) (behind_first ending.size byte text some clear) is) [
        | inl same ↦ reaches_now before longer ending sized some clear same
        | inr (n, size_is, more, others) ↦ inr (suc n, omega arith, omega arith, (first_clear ending.size byte text some clear, others))
      ]

  ended_reaches : (before : Option Escape) (ending : Option Escape) → ending_of (byte ∷ text) ≡ ending
      → ended_by size before (λ skip before. escape_from (size + 1) skip before text) ending ≡ Some e → Reaches size before (byte ∷ text) e
  ended_reaches before None none is = inl is
  ended_reaches before (Some ending) one is =
      let clear = ending_clear (byte ∷ text) ending one in
      found_reaches (is_backslash ending.means) before record { size = size + ending.size; means = ending.means } ending refl clear.0 clear.1 is

  read_reaches : (b : Bool) (before : Option Escape) → is_backslash byte ≡ b
      → read_on b size before (λ skip before. escape_from (size + 1) skip before text) (ending_of (byte ∷ text)) ≡ Some e
      → Reaches size before (byte ∷ text) e
  read_reaches true before slash is =
      one_further size byte before text e (known byte 92 (eqb-true byte 92 slash) (λ e. omega arith) (λ e. omega arith)) (rest 0 before tt is)
  read_reaches false before other is = ended_reaches before (ending_of (byte ∷ text)) refl is

escape_reaches : (size skip : ℕ) (before : Option Escape) (text : List ℕ) (e : Escape) → AreInner skip text
    → escape_from size skip before text ≡ Some e → Reaches size before text e
unfolding escape_from
escape_reaches size skip before [] e clear is = inl is
escape_reaches size (suc skip) before (byte ∷ text) e clear is =
    one_further size byte before text e clear.0 (escape_reaches (size + 1) skip before text e clear.1 is)
escape_reaches size zero before (byte ∷ text) e clear is =
    read_reaches size byte text e (λ skip before. escape_reaches (size + 1) skip before text e) (is_backslash byte) before refl is

-- three octal digits behind a `#`
abbrev pub IsOctal : (a b c : ℕ) → Type 0
IsOctal a b c = (a ≡ 48) × (48 ≤ b) × (b ≤ 51) × (48 ≤ c) × (c ≤ 55)

pub octal_is : (text : List ℕ) (m : ℕ) → octal text ≡ Some m → IsOctal (slice_index text 1) (slice_index text 2) (slice_index text 3)
octal_is text m is =
    elim (either (slice_index text 1 == 48 && is_in_range 48 51 (slice_index text 2) && is_in_range 48 55 (slice_index text 3))
    (Some (8 * (slice_index text 2 - 48) + (slice_index text 3 - 48))) None m is) [
      | inr (other, none) ↦ cc
      | inl (all, some) ↦
          let outer = and_parts (slice_index text 1 == 48 && is_in_range 48 51 (slice_index text 2)) (is_in_range 48 55 (slice_index text 3)) all in
          let inner = and_parts (slice_index text 1 == 48) (is_in_range 48 51 (slice_index text 2)) outer.0 in
          let high = and_parts (leb 48 (slice_index text 2)) (leb (slice_index text 2) 51) inner.1 in
          let low = and_parts (leb 48 (slice_index text 3)) (leb (slice_index text 3) 55) outer.1 in
          (eqb-true _ 48 inner.0, leb-true _ _ high.0, leb-true _ _ high.1, leb-true _ _ low.0, leb-true _ _ low.1)
    ]

both : {byte : ℕ} → byte < 58 → IsInner byte
both low = ((λ colon. omega arith), (λ high. omega arith))

octal_clear : (text : List ℕ) → IsOctal (slice_index text 1) (slice_index text 2) (slice_index text 3) → slice_index text 0 ≡ 35 → AreInner 4 text
octal_clear [] is hash = absurd (omega arith)
octal_clear (a ∷ []) is hash = absurd (omega arith)
octal_clear (a ∷ b ∷ []) is hash = absurd (omega arith)
octal_clear (a ∷ b ∷ c ∷ []) is hash = absurd (omega arith)
octal_clear (a ∷ b ∷ c ∷ d ∷ text) is hash =
    (both (omega arith), (both (omega arith), (both (omega arith), (both (omega arith), tt))))

-- an escape or a colour begins with this byte: a backslash, a `#` or ESC
abbrev pub MayBegin : ℕ → Type 0
MayBegin byte = (byte ≡ 92) ⊎ (byte ≡ 35) ⊎ (byte ≡ 27)

-- so many bytes of a text are an escape or a colour
abbrev pub IsClear : (size : ℕ) → (text : List ℕ) → Type 0
IsClear size text = (0 < size) × AreInner size text × MayBegin (slice_index text 0)

pub escape_clear : (text : List ℕ) (e : Escape) → escape_of text ≡ Some e → IsClear e.size text
unfolding escape_of
escape_clear [] e is = cc
escape_clear (byte ∷ text) e is =
    elim (either (is_backslash byte) (escape_from 0 0 None (byte ∷ text)) (if byte == 35 then of_size 4 (octal (byte ∷ text)) else None) e is) [
      | inl (slash, longest) ↦ elim (escape_reaches 0 0 None (byte ∷ text) e tt longest) [
        | inl none ↦ cc
        | inr (n, size_is, some, clear) ↦
            let same : e.size ≡ n = omega arith in rw same (some, clear, inl (eqb-true byte 92 slash))
      ]
      | inr (other, rest) ↦ elim (either (byte == 35) (of_size 4 (octal (byte ∷ text))) None e rest) [
        | inr (none, nothing) ↦ cc
        | inl (hash, digits) ↦
            let sized = size_of 4 (octal (byte ∷ text)) e digits in
            let begins = eqb-true byte 35 hash in
            rw sized.0 (omega arith, octal_clear (byte ∷ text) (octal_is (byte ∷ text) sized.1.0 sized.1.1) begins, inr (inl begins))
      ]
    ]

-- ---- colours

parameters_clear : (size many : ℕ) (text : List ℕ) (end : ℕ) → colour_from size many text ≡ Some end
    → (n : ℕ) × (end ≡ size + n) × AreInner n text
unfolding colour_from
parameters_clear size zero text end is = cc
parameters_clear size (suc many) [] end is = cc
parameters_clear size (suc many) (byte ∷ text) end is =
    elim (either (byte == 109) (Some (size + 1)) (if is_parameter byte then colour_from (size + 1) many text else None) end is) [
      | inl (m, ends) ↦ let h = eqb-true byte 109 m in let last : size + 1 ≡ end = cc in (1, omega arith, (known byte 109 h (λ e. omega arith) (λ e. omega arith), tt))
      | inr (other, rest) ↦ elim (either (is_parameter byte) (colour_from (size + 1) many text) None end rest) [
        | inl (one, more) ↦
            let clear = parameters_clear (size + 1) many text end more in
            (suc clear.0, omega arith, (((λ colon. let not_one = rw colon at one in cc), (λ high. let not_one = rw high at one in cc)), clear.2))
        | inr (other, none) ↦ cc
      ]
    ]

-- what stands behind the ESC of a colour
colour_clear : (size : ℕ) (text : List ℕ) (end : ℕ) → colour_behind size text ≡ Some end → (n : ℕ) × (end ≡ size + n) × AreInner n text
unfolding colour_behind
colour_clear size [] end is = cc
colour_clear size (byte ∷ text) end is =
    elim (either (byte == 91) (colour_from (size + 1) 33 text) None end is) [
      | inl (bracket, behind) ↦
          let clear = parameters_clear (size + 1) 33 text end behind in
          let h = eqb-true byte 91 bracket in (suc clear.0, omega arith, (known byte 91 h (λ e. omega arith) (λ e. omega arith), clear.2))
      | inr (other, none) ↦ cc
    ]

-- ---- tokens

inner_more : (size n : ℕ) (text : List ℕ) → AreInner size text → AreInner n (drop size text) → AreInner (size + n) text
inner_more zero n text clear more = let e : 0 + n ≡ n = omega arith in rw e more
inner_more (suc size) n [] clear more = absurd clear
inner_more (suc size) n (byte ∷ text) clear more =
    let e : suc size + n ≡ suc (size + n) = omega arith in rw e (clear.0, inner_more size n text clear.1 more)

abbrev pub Fits : Token → (text : List ℕ) → Type 0
Fits (Bytes size) text = 0 < size
Fits (Escaped escape) text = IsClear escape.size text
Fits (Colour size) text = IsClear size text

coloured_fits : (size : ℕ) (otherwise : Token) (text : List ℕ) (colour : Option ℕ) → IsClear size text → Fits otherwise text
    → colour_behind size (drop size text) ≡ colour → Fits (coloured otherwise colour) text
coloured_fits size otherwise text None clear fits is = fits
coloured_fits size otherwise text (Some end) clear fits is =
    let behind = colour_clear size (drop size text) end is in
    rw behind.1 (omega arith, inner_more size behind.0 text clear.1 behind.2, clear.2)

esc_fits : (is_esc : Bool) (size : ℕ) (otherwise : Token) (text : List ℕ) → (is_esc ≡ true → IsClear size text) → Fits otherwise text
    → Fits (escape_or_colour is_esc size otherwise text) text
esc_fits false size otherwise text clear fits = fits
esc_fits true size otherwise text clear fits = coloured_fits size otherwise text (colour_behind size (drop size text)) (clear refl) fits refl

token_by_fits : (byte : ℕ) (text : List ℕ) (escape : Option Escape) → escape_of (byte ∷ text) ≡ escape → Fits (token_by (byte ∷ text) escape) (byte ∷ text)
token_by_fits byte text None is =
    esc_fits (byte == 27) 1 (bytes_of (byte ∷ text)) (byte ∷ text)
    (λ esc. (omega arith, (known byte 27 (eqb-true byte 27 esc) (λ e. omega arith) (λ e. omega arith), tt), inr (inr (eqb-true byte 27 esc))))
    (omega arith)
token_by_fits byte text (Some escape) is =
    let clear = escape_clear (byte ∷ text) escape is in
    esc_fits (escape.means == 27) escape.size (Escaped escape) (byte ∷ text) (λ _. clear) clear

-- what a text begins with
pub token_fits : (byte : ℕ) (text : List ℕ) → Fits (token_of (byte ∷ text)) (byte ∷ text)
unfolding token_of
token_fits byte text = token_by_fits byte text (escape_of (byte ∷ text)) refl
