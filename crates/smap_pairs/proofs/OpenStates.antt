-- A letter that stands by itself begins a character of JSON, where its line may go on up to a `:`.
use Rattle.std.proofs.Common.{◌≡◌, ◌≢◌, ◌++◌, ◌+◌, ◌-◌, ◌*◌, ◌<◌, ◌≤◌, ◌⊎◌, inl, inr, ℕ, zero, suc, Bool, true, false, List, [], ◌∷◌, map, take, drop, length, max, ap, refl, sym, ◌∙◌, arith, Option, Some, None, subst}
use Rattle.std.specs.Prelude.{if◌then◌else◌, not, slice_index, ◌==◌, ◌&&◌, ◌||◌, codes}
use Rattle.std.specs.Char.{digit_value, is_ascii_alphabetic, is_ascii_alphanumeric, is_ascii_hexdigit}
use Rattle.std.specs.Int.{is_in_range}
use Rattle.std.specs.List.{list_any, prefix_len}
use Rattle.std.proofs.lemmas.Bool.{and_parts, eqb-true, le-leb, or_cases, or_parts}
use Rattle.smap_pairs.specs.Escapes.{ended_by, ending_of, escape_from, escape_of, found, hexadecimal, is_backslash, number_of, octal, of_size, read_on}
use Rattle.smap_pairs.specs.Json.{InString, all_may_stand, may_stand, past, past_all, past_digit, past_first}
use Rattle.smap_pairs.specs.Json.InString.{before_digits, behind_backslash, between}
use Rattle.smap_pairs.specs.Seen.{by_itself, counted, counted_from, seen_of, settled, settled_from, token_bytes, token_of, token_size, within, is_apostrophe, is_before_path, is_before_root, ends_with_drive, ends_with_file}
use Rattle.smap_pairs.specs.declared.escapes.Escape.{Escape}
use Rattle.smap_pairs.specs.declared.seen.SeenByte.{SeenByte}
use Rattle.smap_pairs.specs.declared.token.Token.{Token}
use Rattle.smap_pairs.specs.declared.token.Token.TheVariants.{Bytes, Colour, Escaped}
use Rattle.smap_pairs.proofs.EdgeStates.{IsToken, no_digit, other_byte, token_is}
use Rattle.smap_pairs.proofs.EscapeStates.{AreDigits}
use Rattle.smap_pairs.proofs.EscapesLaws.{run_goes_on}
use Rattle.smap_pairs.proofs.JsonLaws.{IsOutside, outside_backslash, past_byte, past_plain}
use Rattle.smap_pairs.proofs.SeenBytesLaws.{all_bytes, bytes_kept, bytes_seen, settled_byte, settled_bytes}
use Rattle.smap_pairs.proofs.TokenLaws.{AreInner, Fits, IsClear, token_fits}

-- ---- where a text may begin

-- it begins a character, or with no letter and no digit, if it may go on up to a `:`
abbrev pub MayBegin : InString → (text : List ℕ) → Type 0
MayBegin state text = (many : ℕ) → many < length text → slice_index text many ≡ 58 → all_may_stand state (take (suc many) text) ≡ true
    → (state ≡ between) ⊎ (is_ascii_alphanumeric (slice_index text 0) ≡ false)

pub begins_between : (state : InString) (text : List ℕ) → state ≡ between → MayBegin state text
begins_between state text is many within colon stands = inl is

-- ---- behind a byte by itself

awaited_on : (more : ℕ) (byte : ℕ) (digit : Bool) → is_ascii_hexdigit byte ≡ digit → (byte == 92) ≡ false
    → (digit ≡ true → (if digit then past_digit more else past_first byte) ≡ between) → (if digit then past_digit more else past_first byte) ≡ between
awaited_on more byte true is slash on = on refl
awaited_on more byte false is slash on = past_byte byte slash

-- the byte may stand there, or a character begins behind it
module _ (state : InString) (byte : ℕ) (text : List ℕ) (slash : (byte == 92) ≡ false) (begins : MayBegin state (byte ∷ text)) where
  stands_on : (many : ℕ) → many < length text → slice_index text many ≡ 58 → all_may_stand (past state byte) (take (suc many) text) ≡ true
      → may_stand state byte ≡ true → past state byte ≡ between
  stands_on many within colon stands may =
      elim (begins (suc many) (omega (arith, within)) colon (ap (λ b. b && all_may_stand (past state byte) (take (suc many) text)) may ∙ stands)) [
        | inl is ↦ ap (λ s. past s byte) is ∙ past_byte byte slash
        | inr other ↦ past_plain state byte slash (no_u other) (no_digit byte other)
      ]
    where
      no_u : is_ascii_alphanumeric byte ≡ false → (byte == 117) ≡ false
      no_u other = other_byte (λ b. not (is_ascii_alphanumeric b)) byte 117 refl (ap not other)

pub begins_behind : (state : InString) (byte : ℕ) (text : List ℕ) → (byte == 92) ≡ false → MayBegin state (byte ∷ text) → MayBegin (past state byte) text
begins_behind between byte text slash begins many within colon stands = inl (past_byte byte slash)
begins_behind behind_backslash byte text slash begins many within colon stands = inl (go (byte == 117) refl)
  where
    go : (u : Bool) → (byte == 117) ≡ u → (if u then before_digits 3 else between) ≡ between
    go false other = refl
    go true u =
        let may : may_stand behind_backslash byte ≡ true = ap (λ b. b || list_any (λ sign. byte == sign) (codes "\"\\/bfnrt")) u in
        let here : past behind_backslash byte ≡ between = stands_on behind_backslash byte text slash begins many within colon stands may in
        sym (ap (λ b. if b then before_digits 3 else between) u) ∙ here
begins_behind (before_digits more) byte text slash begins many within colon stands =
    inl (awaited_on more byte (is_ascii_hexdigit byte) refl slash
    (λ digit. stands_on (before_digits more) byte text slash begins many within colon stands digit))

-- ---- behind a run of backslashes that is no escape

module _ (size byte : ℕ) (text : List ℕ)
    (rest : (skip : ℕ) (before : Escape) → escape_from (size + 1) skip (Some before) text ≢ None) where
  found_some : (b : Bool) (skip : ℕ) (longer : Escape) → found b (λ before. escape_from (size + 1) skip before text) longer ≢ None
  found_some true skip longer none = rest skip longer none
  found_some false skip longer none = cc

  ended_some : (before : Escape) (ending : Option Escape)
      → ended_by size (Some before) (λ skip before. escape_from (size + 1) skip before text) ending ≢ None
  ended_some before None none = cc
  ended_some before (Some ending) none =
      found_some (is_backslash ending.means) (ending.size - 1) record { size = size + ending.size; means = ending.means } none

  read_some : (b : Bool) (before : Escape)
      → read_on b size (Some before) (λ skip before. escape_from (size + 1) skip before text) (ending_of (byte ∷ text)) ≢ None
  read_some true before none = rest 0 before none
  read_some false before none = ended_some before (ending_of (byte ∷ text)) none

stays_some : (size skip : ℕ) (before : Escape) (text : List ℕ) → escape_from size skip (Some before) text ≢ None
unfolding escape_from
stays_some size skip before [] none = cc
stays_some size (suc skip) before (byte ∷ text) none = stays_some (size + 1) skip before text none
stays_some size zero before (byte ∷ text) none =
    read_some size byte text (λ skip before. stays_some (size + 1) skip before text) (is_backslash byte) before none

-- an ending makes one
ends_some : (size byte : ℕ) (text : List ℕ) (ending : Escape) → is_backslash byte ≡ false → ending_of (byte ∷ text) ≡ Some ending
    → escape_from size 0 None (byte ∷ text) ≢ None
unfolding escape_from
ends_some size byte text ending slash is none =
    found_some size byte text (λ skip before. stays_some (size + 1) skip before text) (is_backslash ending.means)
    (ending.size - 1) record { size = size + ending.size; means = ending.means }
    (sym (ap (λ b. read_on b size None (λ skip before. escape_from (size + 1) skip before text) (ending_of (byte ∷ text))) slash
    ∙ ap (ended_by size None (λ skip before. escape_from (size + 1) skip before text)) is) ∙ none)

-- digits that are awaited stand there
digits_stand : (more many at : ℕ) (text : List ℕ) → all_may_stand (before_digits more) (take many text) ≡ true → at < many → at < length text
    → slice_index text at ≡ 58 → AreDigits (suc more) text
digits_stand more many at [] stands least within colon = absurd (omega (arith, within))
digits_stand more zero at (byte ∷ text) stands least within colon = absurd (omega (arith, least))
digits_stand more (suc many) zero (byte ∷ text) stands least within colon =
    let digit = (and_parts (is_ascii_hexdigit byte) _ stands).0 in
    let none : is_ascii_hexdigit byte ≡ false = ap is_ascii_hexdigit colon in cc
digits_stand zero (suc many) (suc at) (byte ∷ text) stands least within colon = ((and_parts (is_ascii_hexdigit byte) _ stands).0, tt)
digits_stand (suc more) (suc many) (suc at) (byte ∷ text) stands least within colon =
    let parts = and_parts (is_ascii_hexdigit byte) (all_may_stand (past (before_digits (suc more)) byte) (take many text)) stands in
    let rest = sym (ap (λ b. all_may_stand (if b then before_digits more else past_first byte) (take many text)) parts.0) ∙ parts.1 in
    (parts.0, digits_stand more many at text rest (omega (arith, least)) (omega (arith, within)) colon)

number_some : (n many : ℕ) (text : List ℕ) → AreDigits many text → (m : ℕ) × (hexadecimal n (take many text) ≡ Some m)
number_some n zero text are = (n, refl)
number_some n (suc many) [] are = absurd are
number_some n (suc many) (byte ∷ text) are =
    let more = number_some (16 * n + digit_value byte) many text are.1 in
    (more.0, ap (λ b. if b then hexadecimal (16 * n + digit_value byte) (take many text) else None) are.0 ∙ more.1)

enough : (many : ℕ) (text : List ℕ) → AreDigits many text → many ≤ length text
enough zero text are = omega arith
enough (suc many) [] are = absurd are
enough (suc many) (byte ∷ text) are = omega (arith, enough many text are.1)

-- behind a `\`, `u` and four digits are an ending, and so is each letter that may stand there
u_ends : (text : List ℕ) → AreDigits 4 text → (e : Escape) × (ending_of (117 ∷ text) ≡ Some e)
unfolding ending_of
u_ends text are =
    let number = number_some 0 4 text are in
    let here : number_of 4 text ≡ Some number.0 =
    ap (λ b. if b then hexadecimal 0 (take 4 text) else None) (le-leb 4 (length text) (enough 4 text are)) ∙ number.1 in
    (record { size = 5; means = number.0 }, ap (of_size 5) here)

-- what a byte ends that may stand behind a `\`
abbrev Ends : (byte : ℕ) → (text : List ℕ) → Type 0
Ends byte text = (is_ascii_alphanumeric byte ≡ false) ⊎ ((e : Escape) × (ending_of (byte ∷ text) ≡ Some e))

sign_ends : (byte : ℕ) (text : List ℕ) → list_any (λ sign. byte == sign) (codes "\"\\/bfnrt") ≡ true → Ends byte text
unfolding ending_of
sign_ends byte text is =
    elim (or_cases (byte == 34) _ is) [
      | inl one ↦ let same = eqb-true byte 34 one in inl (ap is_ascii_alphanumeric same)
      | inr is ↦ elim (or_cases (byte == 92) _ is) [
        | inl one ↦ let same = eqb-true byte 92 one in inl (ap is_ascii_alphanumeric same)
        | inr is ↦ elim (or_cases (byte == 47) _ is) [
          | inl one ↦ let same = eqb-true byte 47 one in inl (ap is_ascii_alphanumeric same)
          | inr is ↦ elim (or_cases (byte == 98) _ is) [
            | inl one ↦ inr (record { size = 1; means = 8 }, ap (λ b. ending_of (b ∷ text)) (eqb-true byte 98 one))
            | inr is ↦ elim (or_cases (byte == 102) _ is) [
              | inl one ↦ inr (record { size = 1; means = 12 }, ap (λ b. ending_of (b ∷ text)) (eqb-true byte 102 one))
              | inr is ↦ elim (or_cases (byte == 110) _ is) [
                | inl one ↦ inr (record { size = 1; means = 10 }, ap (λ b. ending_of (b ∷ text)) (eqb-true byte 110 one))
                | inr is ↦ elim (or_cases (byte == 114) _ is) [
                  | inl one ↦ inr (record { size = 1; means = 13 }, ap (λ b. ending_of (b ∷ text)) (eqb-true byte 114 one))
                  | inr is ↦ elim (or_cases (byte == 116) false is) [
                    | inl one ↦ inr (record { size = 1; means = 9 }, ap (λ b. ending_of (b ∷ text)) (eqb-true byte 116 one))
                    | inr none ↦ cc
                  ]
                ]
              ]
            ]
          ]
        ]
      ]
    ]

-- so what stands behind a `\` that begins no escape is neither
ends_here : (byte : ℕ) (text : List ℕ) (many : ℕ) → many < length (byte ∷ text) → slice_index (byte ∷ text) many ≡ 58
    → all_may_stand behind_backslash (take (suc many) (byte ∷ text)) ≡ true → Ends byte text
ends_here byte text many within colon stands =
    let parts = and_parts (may_stand behind_backslash byte) (all_may_stand (past behind_backslash byte) (take many text)) stands in
    elim (or_cases (byte == 117) (list_any (λ sign. byte == sign) (codes "\"\\/bfnrt")) parts.0) [
      | inl u ↦ of_u (eqb-true byte 117 u) many within colon (sym (ap (λ b. all_may_stand (if b then before_digits 3 else between) (take many text)) u) ∙ parts.1)
      | inr sign ↦ sign_ends byte text sign
    ]
  where
    of_u : byte ≡ 117 → (many : ℕ) → many < length (byte ∷ text) → slice_index (byte ∷ text) many ≡ 58
        → all_may_stand (before_digits 3) (take many text) ≡ true → Ends byte text
    of_u same zero within colon stands = absurd (omega (arith, same, colon))
    of_u same (suc many) within colon stands =
        let ends = u_ends text (digits_stand 3 (suc many) many text stands (omega arith) (omega (arith, within)) colon) in
        inr (ends.0, ap (λ b. ending_of (b ∷ text)) same ∙ ends.1)

begins_unescaped : (state : InString) (size : ℕ) (text : List ℕ) → IsOutside state → prefix_len is_backslash text ≡ 0 → escape_from size 0 None text ≡ None
    → MayBegin state text
begins_unescaped state size [] outside no_run none many within colon stands = absurd (omega (arith, within))
begins_unescaped state size (byte ∷ text) (inl is) no_run none many within colon stands = inl is
begins_unescaped state size (byte ∷ text) (inr is) no_run none many within colon stands =
    elim (ends_here byte text many within colon (ap (λ s. all_may_stand s (take (suc many) (byte ∷ text))) (sym is) ∙ stands)) [
      | inl other ↦ inr other
      | inr ends ↦ absurd (ends_some size byte text ends.0 (no_slash (is_backslash byte) no_run) ends.1 none)
    ]
  where
    no_slash : (b : Bool) → (if b then 1 + prefix_len is_backslash text else 0) ≡ 0 → b ≡ false
    no_slash true is = absurd (omega (arith, is))
    no_slash false is = refl

-- behind all of the run
pub begins_behind_run : (state : InString) (size : ℕ) (text : List ℕ) → IsOutside state → escape_from size 0 None text ≡ None
    → MayBegin (past_all state (take (prefix_len is_backslash text) text)) (drop (prefix_len is_backslash text) text)
begins_behind_run state size [] outside none = begins_unescaped state size [] outside refl none
begins_behind_run state size (byte ∷ text) outside none =
    go (is_backslash byte) refl (begins_behind_run (past state byte) (size + 1) text)
  where
    run : ℕ
    run = prefix_len is_backslash text

    go : (b : Bool) → is_backslash byte ≡ b
        → (IsOutside (past state byte) → escape_from (size + 1) 0 None text ≡ None → MayBegin (past_all (past state byte) (take run text)) (drop run text))
        → MayBegin (past_all state (take (if b then 1 + run else 0) (byte ∷ text))) (drop (if b then 1 + run else 0) (byte ∷ text))
    go true slash rest =
        let begins = eqb-true byte 92 slash in
        let same : 1 + run ≡ suc run = omega arith in
        rw same (rest (subst IsOutside (ap (past state) (sym begins)) (outside_backslash state))
        (sym (run_goes_on size None text) ∙ ap (λ b. escape_from size 0 None (b ∷ text)) (sym begins) ∙ none))
    go false slash rest = begins_unescaped state size (byte ∷ text) outside (ap (λ b. if b then 1 + run else 0) slash) none

-- ---- bytes by themselves

-- so many of these bytes stand by themselves, and a `:` stands behind them
abbrev pub AreAlone : (many : ℕ) → List SeenByte → Type 0
AreAlone many [] = ⊥
AreAlone zero (one ∷ seen) = one.byte ≡ 58
AreAlone (suc many) (one ∷ seen) = (one.size ≡ 0) × AreAlone many seen

-- a letter begins a character, if it stands by itself, and its line may go on up to a `:`
abbrev pub IsOpen : InString → List SeenByte → Type 0
IsOpen state [] = Unit {0}
IsOpen state (one ∷ seen) = (many : ℕ) → AreAlone many (one ∷ seen) → is_ascii_alphabetic one.byte ≡ true
    → all_may_stand state (take (suc many) (bytes_seen (one ∷ seen))) ≡ true → state ≡ between

abbrev pub AreOpen : InString → List SeenByte → Type 0
AreOpen state [] = Unit {0}
AreOpen state (one ∷ seen) = IsOpen state (one ∷ seen) × AreOpen (past state one.byte) seen

colon_there : (many : ℕ) (seen : List SeenByte) → AreAlone many seen → (many < length (bytes_seen seen)) × (slice_index (bytes_seen seen) many ≡ 58)
colon_there many [] alone = absurd alone
colon_there zero (one ∷ seen) alone = (omega arith, alone)
colon_there (suc many) (one ∷ seen) alone = let rest = colon_there many seen alone.1 in (omega (arith, rest.0), rest.1)

letter_is : (byte : ℕ) → is_ascii_alphabetic byte ≡ true → is_ascii_alphanumeric byte ≡ false → ⊥
letter_is byte letter none =
    let outer = or_parts (is_in_range 48 57 byte || is_in_range 65 90 byte) (is_in_range 97 122 byte) none in
    let inner = or_parts (is_in_range 48 57 byte) (is_in_range 65 90 byte) outer.0 in
    let other : is_ascii_alphabetic byte ≡ false = ap (λ b. b || is_in_range 97 122 byte) inner.1 ∙ outer.1 in cc

begins_open : (state : InString) (seen : List SeenByte) (text : List ℕ) → bytes_seen seen ≡ text → MayBegin state text → IsOpen state seen
begins_open state [] text are begins = tt
begins_open state (one ∷ seen) text are begins = λ many alone letter stands.
    let there = colon_there many (one ∷ seen) alone in
    elim (subst (MayBegin state) (sym are) begins many there.0 there.1 stands) [
      | inl is ↦ is
      | inr none ↦ absurd (letter_is one.byte letter none)
    ]

-- a run of backslashes has no letter
slashes_open : (state : InString) (many : ℕ) (text : List ℕ) (rest : List SeenByte) → many ≤ prefix_len is_backslash text
    → AreOpen (past_all state (take many text)) rest → AreOpen state (map by_itself (take many text) ++ rest)
slashes_open state zero text rest within more = more
slashes_open state (suc many) [] rest within more = more
slashes_open state (suc many) (byte ∷ text) rest within more = go (is_backslash byte) refl within (slashes_open (past state byte) many text rest)
  where
    go : (b : Bool) → is_backslash byte ≡ b → suc many ≤ (if b then 1 + prefix_len is_backslash text else 0)
        → (many ≤ prefix_len is_backslash text → AreOpen (past_all (past state byte) (take many text)) rest
        → AreOpen (past state byte) (map by_itself (take many text) ++ rest))
        → AreOpen state (map by_itself (take (suc many) (byte ∷ text)) ++ rest)
    go true slash within further = (
      (λ at alone letter stands. let none : is_ascii_alphabetic byte ≡ false = ap is_ascii_alphabetic (eqb-true byte 92 slash) in cc),
      further (omega (arith, within)) more,
    )
    go false slash within further = absurd (omega (arith, within))

-- ---- escapes and colours

-- none of their bytes stands by itself before a `:`
none_alone : (many at : ℕ) (text : List ℕ) (last : SeenByte) (rest : List SeenByte) → AreInner (suc many) text → last.byte ≡ slice_index text many
    → 0 < last.size → AreAlone at ((map within (take many text) ++ last ∷ []) ++ rest) → ⊥
none_alone many at [] last rest inner is some alone = absurd inner
none_alone zero zero (byte ∷ text) last rest inner is some alone = inner.0.0 (sym is ∙ alone)
none_alone zero (suc at) (byte ∷ text) last rest inner is some alone = omega (arith, some, alone.0)
none_alone (suc many) zero (byte ∷ text) last rest inner is some alone = inner.0.0 alone
none_alone (suc many) (suc at) (byte ∷ text) last rest inner is some alone = none_alone many at text last rest inner.1 is some alone.1

inner_open : (state : InString) (many : ℕ) (text : List ℕ) (last : SeenByte) (rest : List SeenByte) → AreInner (suc many) text → last.byte ≡ slice_index text many
    → 0 < last.size → AreOpen (past_all state (take (suc many) text)) rest → AreOpen state ((map within (take many text) ++ last ∷ []) ++ rest)
inner_open state many [] last rest inner is some more = absurd inner
inner_open state zero (byte ∷ text) last rest inner is some more = (
  (λ at alone letter stands. absurd (none_alone zero at (byte ∷ text) last rest inner is some alone)),
  subst (λ b. AreOpen (past state b) rest) (sym is) more,
)
inner_open state (suc many) (byte ∷ text) last rest inner is some more = (
  (λ at alone letter stands. absurd (none_alone (suc many) at (byte ∷ text) last rest inner is some alone)),
  inner_open (past state byte) many text last rest inner.1 is some more,
)

counted_open : (state : InString) (size counts : ℕ) (is_edge : Bool) (text : List ℕ) (rest : List SeenByte) → IsClear size text
    → AreOpen (past_all state (take size text)) rest → AreOpen state (counted size counts is_edge text ++ rest)
counted_open state zero counts is_edge text rest clear more = absurd (omega arith)
counted_open state (suc many) counts is_edge text rest clear more =
    let same : suc many - 1 ≡ many = omega arith in rw same (inner_open state many text _ rest clear.1 refl (omega arith) more)

-- ---- tokens

module _ (state : InString) (byte : ℕ) (text : List ℕ)
    (rest : (state : InString) (skip : ℕ) → MayBegin state (drop skip text) → AreOpen state (counted_from skip text)) where
  run : ℕ
  run = prefix_len is_backslash text

  run_open : (size : ℕ) → size ≡ suc run → is_backslash byte ≡ true → escape_of (byte ∷ text) ≡ None
      → AreOpen state (map by_itself (take size (byte ∷ text)) ++ counted_from (size - 1) text)
  unfolding run escape_of
  run_open size sized slash none =
      let begins = eqb-true byte 92 slash in
      let back : size - 1 ≡ run = omega (arith, sized) in
      let unescaped : escape_from 0 0 None (92 ∷ text) ≡ None =
      sym (ap (λ b. if b then escape_from 0 0 None (byte ∷ text) else (if byte == 35 then of_size 4 (octal (byte ∷ text)) else None)) slash
      ∙ ap (λ b. escape_from 0 0 None (b ∷ text)) begins) ∙ none in
      let within : suc run ≤ prefix_len is_backslash (byte ∷ text) =
      let all : prefix_len is_backslash (byte ∷ text) ≡ 1 + run = ap (λ b. if b then 1 + run else 0) slash in omega (arith, all) in
      let more : AreOpen (past_all (past state byte) (take run text)) (counted_from run text) =
      rest (past_all (past state byte) (take run text)) run
      (begins_behind_run (past state byte) 1 text (subst IsOutside (ap (past state) (sym begins)) (outside_backslash state))
      (sym (run_goes_on 0 None text) ∙ unescaped)) in
      subst (λ n. AreOpen state (map by_itself (take size (byte ∷ text)) ++ counted_from n text)) (sym back)
      (subst (λ n. AreOpen state (map by_itself (take n (byte ∷ text)) ++ counted_from run text)) (sym sized)
      (slashes_open state (suc run) (byte ∷ text) (counted_from run text) within more))

  byte_open : (size : ℕ) → size ≡ 1 → is_backslash byte ≡ false → MayBegin state (byte ∷ text)
      → AreOpen state (map by_itself (take size (byte ∷ text)) ++ counted_from (size - 1) text)
  byte_open size sized slash begins =
      let back : size - 1 ≡ 0 = omega (arith, sized) in
      subst (λ n. AreOpen state (map by_itself (take size (byte ∷ text)) ++ counted_from n text)) (sym back)
      (subst (λ n. AreOpen state (map by_itself (take n (byte ∷ text)) ++ counted_from 0 text)) (sym sized) (
        begins_open state (by_itself byte ∷ counted_from 0 text) (byte ∷ text) (ap (λ l. byte ∷ l) (all_bytes 0 text)) begins,
        rest (past state byte) 0 (begins_behind state byte text slash begins),
      ))

  bytes_open : (size : ℕ) → size ≡ max 1 (prefix_len is_backslash (byte ∷ text)) → escape_of (byte ∷ text) ≡ None → MayBegin state (byte ∷ text)
      → AreOpen state (map by_itself (take size (byte ∷ text)) ++ counted_from (size - 1) text)
  unfolding run
  bytes_open size sized none begins = go (is_backslash byte) refl sized
    where
      go : (b : Bool) → is_backslash byte ≡ b → size ≡ max 1 (if b then 1 + run else 0)
          → AreOpen state (map by_itself (take size (byte ∷ text)) ++ counted_from (size - 1) text)
      go true slash sized = run_open size (omega (arith, sized)) slash none
      go false slash sized = byte_open size (omega (arith, sized)) slash begins

  -- behind an escape or a colour a character begins
  past_token : (size : ℕ) → 0 < size → past_all state (take size (byte ∷ text)) ≡ between
      → AreOpen (past_all state (take size (byte ∷ text))) (counted_from (size - 1) text)
  past_token size some is =
      rest (past_all state (take size (byte ∷ text))) (size - 1) (begins_between (past_all state (take size (byte ∷ text))) (drop (size - 1) text) is)

  token_open : (token : Token) → IsToken token (byte ∷ text) → Fits token (byte ∷ text) → MayBegin state (byte ∷ text)
      → AreOpen state (token_bytes token (byte ∷ text) ++ counted_from (token_size token - 1) text)
  token_open (Bytes size) is fits begins = bytes_open size is.0 is.1 begins
  token_open (Escaped escape) is fits begins =
      counted_open state escape.size _ _ (byte ∷ text) _ fits (past_token escape.size fits.0 (is state))
  token_open (Colour size) is fits begins = counted_open state size 255 true (byte ∷ text) _ fits (past_token size fits.0 (is state))

all_open : (state : InString) (skip : ℕ) (text : List ℕ) → MayBegin state (drop skip text) → AreOpen state (counted_from skip text)
unfolding counted_from
all_open state zero [] begins = tt
all_open state (suc skip) [] begins = tt
all_open state (suc skip) (byte ∷ text) begins = all_open state skip text begins
all_open state zero (byte ∷ text) begins =
    token_open state byte text (λ state skip. all_open state skip text) (token_of (byte ∷ text)) (token_is (byte ∷ text)) (token_fits byte text) begins

-- ---- settled

pub settled_size : (before : List SeenByte) (one : SeenByte) (text : List ℕ) → (settled before one text).size ≡ one.size
unfolding settled
settled_size before one text = go (is_before_path one text) (is_apostrophe before one text) (is_before_root before one text)
  where
    go : (path word root : Bool) → (if path then record one { is_edge = not (ends_with_drive before || ends_with_file before) }
        else if word then record one { counts = 226; is_edge = false } else if root then record one { is_edge = true } else one).size ≡ one.size
    go true word root = refl
    go false true root = refl
    go false false true = refl
    go false false false = refl

settled_alone : (many : ℕ) (before : List SeenByte) (text : List ℕ) (seen : List SeenByte) → AreAlone many (settled_from before text seen) → AreAlone many seen
unfolding settled_from
settled_alone many before text [] alone = alone
settled_alone zero before text (one ∷ seen) alone = sym (settled_byte before one (drop 1 text)) ∙ alone
settled_alone (suc many) before text (one ∷ seen) alone =
    (sym (settled_size before one (drop 1 text)) ∙ alone.0, settled_alone many (one ∷ before) (drop 1 text) seen alone.1)

settled_open : (state : InString) (before : List SeenByte) (text : List ℕ) (seen : List SeenByte) → AreOpen state seen → AreOpen state (settled_from before text seen)
unfolding settled_from
settled_open state before text [] opens = tt
settled_open state before text (one ∷ seen) opens = (
  (λ many alone letter stands.
      opens.0 many (settled_alone many before text (one ∷ seen) alone) (ap is_ascii_alphabetic (sym (settled_byte before one (drop 1 text))) ∙ letter)
      (ap (λ l. all_may_stand state (take (suc many) l)) (sym (settled_bytes before text (one ∷ seen))) ∙ stands)),
  rw (settled_byte before one (drop 1 text)) (settled_open (past state one.byte) (one ∷ before) (drop 1 text) seen opens.1),
)

open_at : (state : InString) (at : ℕ) (seen : List SeenByte) → AreOpen state seen → IsOpen (past_all state (take at (bytes_seen seen))) (drop at seen)
open_at state zero [] opens = tt
open_at state (suc at) [] opens = tt
open_at state zero (one ∷ seen) opens = opens.0
open_at state (suc at) (one ∷ seen) opens = open_at (past state one.byte) at seen opens.1

-- wherever a line begins
pub open_in : (state : InString) (line : List ℕ) (at : ℕ) → MayBegin state line → IsOpen (past_all state (take at line)) (drop at (seen_of line))
unfolding seen_of
open_in state line at begins =
    subst (λ text. IsOpen (past_all state (take at text)) (drop at (seen_of line))) (bytes_kept line)
    (open_at state at (seen_of line) (settled_open state [] line (counted_from 0 line) (all_open state 0 line begins)))
