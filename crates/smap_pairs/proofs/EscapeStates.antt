-- Behind an escape or a colour a character of JSON begins, wherever its first byte stands.
use Rattle.std.proofs.Common.{◌≡◌, ◌+◌, ◌-◌, ◌*◌, ◌<◌, ◌≤◌, ◌⊎◌, ℕ, zero, suc, Bool, true, false, List, [], ◌∷◌, length, take, ap, refl, sym, ◌∙◌, inl, inr, arith, Option, Some, None, leb}
use Rattle.std.specs.Prelude.{if◌then◌else◌, ◌==◌}
use Rattle.std.specs.Char.{digit_value, is_ascii_hexdigit}
use Rattle.std.proofs.lemmas.Bool.{eqb-true, leb-true}
use Rattle.smap_pairs.specs.Json.{InString, past, past_all}
use Rattle.smap_pairs.specs.Json.InString.{before_digits, behind_backslash, between}
use Rattle.smap_pairs.specs.declared.escapes.Escape.{Escape}
use Rattle.smap_pairs.specs.Colours.{colour_behind, colour_from, is_parameter}
use Rattle.smap_pairs.specs.Escapes.{ended_by, ending_of, escape_from, escape_of, found, hexadecimal, is_backslash, meant_by, number_of, octal, of_size, read_on}
use Rattle.smap_pairs.proofs.JsonLaws.{IsOutside, outside_backslash, past_m, past_sharp}
use Rattle.smap_pairs.proofs.TokenLaws.{either, octal_is, size_of}

-- ---- digits

-- the first so many bytes of a text stand there, and are hexadecimal digits
abbrev pub AreDigits : (many : ℕ) → (text : List ℕ) → Type 0
AreDigits zero text = Unit {0}
AreDigits (suc many) [] = ⊥
AreDigits (suc many) (byte ∷ text) = (is_ascii_hexdigit byte ≡ true) × AreDigits many text

hexadecimal_digits : (n : ℕ) (many : ℕ) (text : List ℕ) (m : ℕ) → many ≤ length text → hexadecimal n (take many text) ≡ Some m → AreDigits many text
hexadecimal_digits n zero text m enough is = tt
hexadecimal_digits n (suc many) [] m enough is = absurd (omega arith)
hexadecimal_digits n (suc many) (byte ∷ text) m enough is =
    elim (either (is_ascii_hexdigit byte) (hexadecimal (16 * n + digit_value byte) (take many text)) None m is) [
      | inl (one, more) ↦ (one, hexadecimal_digits (16 * n + digit_value byte) many text m (omega arith) more)
      | inr (other, none) ↦ cc
    ]

pub number_digits : (many : ℕ) (text : List ℕ) (m : ℕ) → number_of many text ≡ Some m → AreDigits many text
number_digits many text m is =
    elim (either (leb many (length text)) (hexadecimal 0 (take many text)) None m is) [
      | inl (enough, number) ↦ hexadecimal_digits 0 many text m (leb-true _ _ enough) number
      | inr (few, none) ↦ cc
    ]

-- a digit is no backslash
digit_other : (byte : ℕ) → is_ascii_hexdigit byte ≡ true → (byte == 92) ≡ false
digit_other byte is = go (byte == 92) refl
  where
    go : (b : Bool) → (byte == 92) ≡ b → b ≡ false
    go false other = refl
    go true slash = let same = eqb-true byte 92 slash in let other = rw same at is in cc

past_one : (byte : ℕ) → is_ascii_hexdigit byte ≡ true → past between byte ≡ between
past_one byte is = ap (λ b. if b then behind_backslash else between) (digit_other byte is)

pub digits_between : (many : ℕ) (text : List ℕ) → AreDigits many text → past_all between (take many text) ≡ between
digits_between zero text are = refl
digits_between (suc many) [] are = absurd are
digits_between (suc many) (byte ∷ text) are =
    ap (λ state. past_all state (take many text)) (past_one byte are.0) ∙ digits_between many text are.1

-- those that are awaited, and no more
pub digits_awaited : (many : ℕ) (text : List ℕ) → AreDigits (suc many) text → past_all (before_digits many) (take (suc many) text) ≡ between
digits_awaited many [] are = absurd are
digits_awaited zero (byte ∷ text) are = ap (λ b. past_all (if b then between else past between byte) (take 0 text)) are.0
digits_awaited (suc many) (byte ∷ text) are =
    ap (λ b. past_all (if b then before_digits many else past between byte) (take (suc many) text)) are.0 ∙ digits_awaited many text are.1

-- ---- endings

-- a letter or a quotation mark that means something is no backslash and no `u`
meant_other : (byte m : ℕ) → meant_by byte ≡ Some m → ((byte == 92) ≡ false) × ((byte == 117) ≡ false)
meant_other byte m is = (slash (byte == 92) refl, u (byte == 117) refl)
  where
    slash : (b : Bool) → (byte == 92) ≡ b → b ≡ false
    slash false other = refl
    slash true one = let none : meant_by byte ≡ None = ap meant_by (eqb-true byte 92 one) in cc

    u : (b : Bool) → (byte == 117) ≡ b → b ≡ false
    u false other = refl
    u true one = let none : meant_by byte ≡ None = ap meant_by (eqb-true byte 117 one) in cc

u_passed : (state : InString) (text : List ℕ) → IsOutside state → AreDigits 4 text → past_all state (take 5 (117 ∷ text)) ≡ between
u_passed state text (inl is) are = ap (λ state. past_all state (take 5 (117 ∷ text))) is ∙ digits_between 4 text are
u_passed state text (inr is) are = ap (λ state. past_all state (take 5 (117 ∷ text))) is ∙ digits_awaited 3 text are

x_passed : (state : InString) (text : List ℕ) → IsOutside state → AreDigits 2 text → past_all state (take 3 (120 ∷ text)) ≡ between
x_passed state text (inl is) are = ap (λ state. past_all state (take 3 (120 ∷ text))) is ∙ digits_between 2 text are
x_passed state text (inr is) are = ap (λ state. past_all state (take 3 (120 ∷ text))) is ∙ digits_between 2 text are

letter_passed : (state : InString) (byte : ℕ) → IsOutside state → (byte == 92) ≡ false → (byte == 117) ≡ false → past state byte ≡ between
letter_passed state byte (inl is) slash u = ap (λ state. past state byte) is ∙ ap (λ b. if b then behind_backslash else between) slash
letter_passed state byte (inr is) slash u = ap (λ state. past state byte) is ∙ ap (λ b. if b then before_digits 3 else between) u

pub ending_passed : (state : InString) (text : List ℕ) (e : Escape) → IsOutside state → ending_of text ≡ Some e
    → (0 < e.size) × (past_all state (take e.size text) ≡ between)
unfolding ending_of
ending_passed state [] e outside is = cc
ending_passed state (byte ∷ text) e outside is =
    elim (either (byte == 117) (of_size 5 (number_of 4 text)) (if byte == 120 then of_size 3 (number_of 2 text) else of_size 1 (meant_by byte)) e is) [
      | inl (u, four) ↦
          let sized = size_of 5 (number_of 4 text) e four in
          let begins = eqb-true byte 117 u in
          rw sized.0 (omega arith, rw begins (u_passed state text outside (number_digits 4 text sized.1.0 sized.1.1)))
      | inr (not_u, rest) ↦ elim (either (byte == 120) (of_size 3 (number_of 2 text)) (of_size 1 (meant_by byte)) e rest) [
        | inl (x, two) ↦
            let sized = size_of 3 (number_of 2 text) e two in
            let begins = eqb-true byte 120 x in
            rw sized.0 (omega arith, rw begins (x_passed state text outside (number_digits 2 text sized.1.0 sized.1.1)))
        | inr (not_x, one) ↦
            let sized = size_of 1 (meant_by byte) e one in
            let other = meant_other byte sized.1.0 sized.1.1 in
            rw sized.0 (omega arith, letter_passed state byte outside other.0 other.1)
      ]
    ]

-- ---- escapes

-- the longest escape is the one before, or has some more bytes of the text, behind which a character begins
abbrev pub EndsBetween : (state : InString) → (size : ℕ) → (before : Option Escape) → (text : List ℕ) → (e : Escape) → Type 0
EndsBetween state size before text e = (before ≡ Some e) ⊎ ((n : ℕ) × (e.size ≡ size + n) × (past_all state (take n text) ≡ between))

one_further : (state : InString) (size byte : ℕ) (before : Option Escape) (text : List ℕ) (e : Escape)
    → EndsBetween (past state byte) (size + 1) before text e → EndsBetween state size before (byte ∷ text) e
one_further state size byte before text e (inl is) = inl is
one_further state size byte before text e (inr (n, is, ends)) = inr (suc n, omega arith, ends)

less_one : (n byte : ℕ) (state : InString) (text : List ℕ) → 0 < n → past_all state (take n (byte ∷ text)) ≡ between
    → past_all (past state byte) (take (n - 1) text) ≡ between
less_one zero byte state text some is = absurd (omega arith)
less_one (suc n) byte state text some is = ap (λ k. past_all (past state byte) (take k text)) (let e : suc n - 1 ≡ n = omega arith in e) ∙ is

module _ (state : InString) (outside : IsOutside state) (size byte : ℕ) (text : List ℕ) (e : Escape)
    (rest : (skip : ℕ) (before : Option Escape) → IsOutside (past_all (past state byte) (take skip text))
    → escape_from (size + 1) skip before text ≡ Some e → EndsBetween (past state byte) (size + 1) before text e) where
  ends_now : (before : Option Escape) (longer ending : Escape) → longer.size ≡ size + ending.size
      → past_all state (take ending.size (byte ∷ text)) ≡ between → Some longer ≡ Some e → EndsBetween state size before (byte ∷ text) e
  ends_now before longer ending sized ends is =
      let same : longer ≡ e = cc in
      let size_is : longer.size ≡ e.size = ap (λ (x : Escape). x.size) same in
      inr (ending.size, sym size_is ∙ sized, ends)

  found_ends : (b : Bool) (before : Option Escape) (longer ending : Escape) → longer.size ≡ size + ending.size → 0 < ending.size
      → past_all state (take ending.size (byte ∷ text)) ≡ between → found b (λ before. escape_from (size + 1) (ending.size - 1) before text) longer ≡ Some e
      → EndsBetween state size before (byte ∷ text) e
  found_ends false before longer ending sized some ends is = ends_now before longer ending sized ends is
  found_ends true before longer ending sized some ends is =
      elim (rest (ending.size - 1) (Some longer) (inl (less_one ending.size byte state text some ends)) is) [
        | inl same ↦ ends_now before longer ending sized ends same
        | inr (n, size_is, more) ↦ inr (suc n, omega arith, more)
      ]

  ended_ends : (before : Option Escape) (ending : Option Escape) → ending_of (byte ∷ text) ≡ ending
      → ended_by size before (λ skip before. escape_from (size + 1) skip before text) ending ≡ Some e → EndsBetween state size before (byte ∷ text) e
  ended_ends before None none is = inl is
  ended_ends before (Some ending) one is =
      let passed = ending_passed state (byte ∷ text) ending outside one in
      found_ends (is_backslash ending.means) before record { size = size + ending.size; means = ending.means } ending refl passed.0 passed.1 is

  read_ends : (b : Bool) (before : Option Escape) → is_backslash byte ≡ b
      → read_on b size before (λ skip before. escape_from (size + 1) skip before text) (ending_of (byte ∷ text)) ≡ Some e
      → EndsBetween state size before (byte ∷ text) e
  read_ends true before slash is =
      let begins = eqb-true byte 92 slash in
      one_further state size byte before text e (rest 0 before (rw begins (outside_backslash state)) is)
  read_ends false before other is = ended_ends before (ending_of (byte ∷ text)) refl is

escape_ends : (state : InString) (size skip : ℕ) (before : Option Escape) (text : List ℕ) (e : Escape) → IsOutside (past_all state (take skip text))
    → escape_from size skip before text ≡ Some e → EndsBetween state size before text e
unfolding escape_from
escape_ends state size skip before [] e outside is = inl is
escape_ends state size (suc skip) before (byte ∷ text) e outside is =
    one_further state size byte before text e (escape_ends (past state byte) (size + 1) skip before text e outside is)
escape_ends state size zero before (byte ∷ text) e outside is =
    read_ends state outside size byte text e (λ skip before. escape_ends (past state byte) (size + 1) skip before text e) (is_backslash byte) before refl is

-- a run of backslashes begins it
run_ends : (state : InString) (text : List ℕ) (e : Escape) → escape_from 0 0 None (92 ∷ text) ≡ Some e → past_all state (take e.size (92 ∷ text)) ≡ between
unfolding escape_from ending_of
run_ends state text e is =
    elim (escape_ends (past state 92) 1 0 None text e (outside_backslash state) is) [
      | inl none ↦ cc
      | inr (n, size_is, ends) ↦ let same : e.size ≡ suc n = omega arith in rw same ends
    ]

low_passed : (byte : ℕ) → byte < 92 → past between byte ≡ between
low_passed byte low = ap (λ b. if b then behind_backslash else between) (ne_low (byte == 92) refl)
  where
    ne_low : (b : Bool) → (byte == 92) ≡ b → b ≡ false
    ne_low false other = refl
    ne_low true same = let e = eqb-true byte 92 same in absurd (omega arith)

octal_passed : (state : InString) (text : List ℕ) (m : ℕ) → octal (35 ∷ text) ≡ Some m → past_all state (take 4 (35 ∷ text)) ≡ between
octal_passed state [] m is = let digits = octal_is (35 ∷ []) m is in absurd (omega arith)
octal_passed state (a ∷ []) m is = let digits = octal_is (35 ∷ a ∷ []) m is in absurd (omega arith)
octal_passed state (a ∷ b ∷ []) m is = let digits = octal_is (35 ∷ a ∷ b ∷ []) m is in absurd (omega arith)
octal_passed state (a ∷ b ∷ c ∷ text) m is =
    let digits = octal_is (35 ∷ a ∷ b ∷ c ∷ text) m is in
    ap (λ state. past (past (past state a) b) c) (past_sharp state)
    ∙ ap (λ state. past (past state b) c) (low_passed a (omega (arith, digits.0)))
    ∙ ap (λ state. past state c) (low_passed b (omega (arith, digits.2))) ∙ low_passed c (omega (arith, digits.4))

pub escape_passed : (state : InString) (text : List ℕ) (e : Escape) → escape_of text ≡ Some e → past_all state (take e.size text) ≡ between
unfolding escape_of
escape_passed state [] e is = cc
escape_passed state (byte ∷ text) e is =
    elim (either (is_backslash byte) (escape_from 0 0 None (byte ∷ text)) (if byte == 35 then of_size 4 (octal (byte ∷ text)) else None) e is) [
      | inl (slash, longest) ↦
          let begins = eqb-true byte 92 slash in
          rw begins (run_ends state text e (ap (λ b. escape_from 0 0 None (b ∷ text)) (sym begins) ∙ longest))
      | inr (other, rest) ↦ elim (either (byte == 35) (of_size 4 (octal (byte ∷ text))) None e rest) [
        | inr (none, nothing) ↦ cc
        | inl (sharp, digits) ↦
            let sized = size_of 4 (octal (byte ∷ text)) e digits in
            let begins = eqb-true byte 35 sharp in
            rw sized.0 (rw begins (octal_passed state text sized.1.0 (ap (λ b. octal (b ∷ text)) (sym begins) ∙ sized.1.1)))
      ]
    ]

-- ---- colours

parameters_passed : (state : InString) (size many : ℕ) (text : List ℕ) (end : ℕ) → colour_from size many text ≡ Some end
    → (n : ℕ) × (end ≡ size + n) × (past_all state (take n text) ≡ between)
unfolding colour_from
parameters_passed state size zero text end is = cc
parameters_passed state size (suc many) [] end is = cc
parameters_passed state size (suc many) (byte ∷ text) end is =
    elim (either (byte == 109) (Some (size + 1)) (if is_parameter byte then colour_from (size + 1) many text else None) end is) [
      | inl (m, ends) ↦ let last : size + 1 ≡ end = cc in (1, omega arith, ap (past state) (eqb-true byte 109 m) ∙ past_m state)
      | inr (other, rest) ↦ elim (either (is_parameter byte) (colour_from (size + 1) many text) None end rest) [
        | inl (one, more) ↦ let passed = parameters_passed (past state byte) (size + 1) many text end more in (suc passed.0, omega arith, passed.2)
        | inr (other, none) ↦ cc
      ]
    ]

-- what stands behind the ESC of a colour
pub colour_passed : (state : InString) (size : ℕ) (text : List ℕ) (end : ℕ) → colour_behind size text ≡ Some end
    → (n : ℕ) × (end ≡ size + n) × (past_all state (take n text) ≡ between)
unfolding colour_behind
colour_passed state size [] end is = cc
colour_passed state size (byte ∷ text) end is =
    elim (either (byte == 91) (colour_from (size + 1) 33 text) None end is) [
      | inl (bracket, behind) ↦ let passed = parameters_passed (past state byte) (size + 1) 33 text end behind in (suc passed.0, omega arith, passed.2)
      | inr (other, none) ↦ cc
    ]
