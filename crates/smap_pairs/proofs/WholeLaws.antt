-- Each escape of a line stands there whole: its bytes right before its last one, of which none is a `:`.
use Rattle.std.proofs.Common.{◌≡◌, ◌≢◌, ◌+◌, ◌-◌, ◌<◌, ◌⊎◌, ◌++◌, ℕ, zero, suc, Bool, true, false, List, [], ◌∷◌, map, take, drop, ap, refl, subst, inl, inr, arith, append_assoc}
use Rattle.std.specs.Prelude.{if◌then◌else◌, not, slice_index, nat_le, ◌==◌, ◌&&◌, ◌||◌}
use Rattle.std.proofs.lemmas.Bool.{and_parts, eqb-true, le-leb, ne_eqb, or_cases}
use Rattle.smap_pairs.specs.declared.seen.SeenByte.{SeenByte}
use Rattle.smap_pairs.specs.declared.token.Token.{Token}
use Rattle.smap_pairs.specs.declared.token.Token.TheVariants.{Bytes, Colour, Escaped}
use Rattle.smap_pairs.specs.Marks.{ends_escape, ends_mark}
use Rattle.smap_pairs.specs.Seen.{by_itself, counted, counted_from, ends_with_drive, ends_with_file, is_apostrophe, is_before_path, is_before_root, seen_of, settled, settled_from, token_bytes, token_of, token_size, within}
use Rattle.smap_pairs.proofs.TokenLaws.{AreInner, Fits, IsClear, IsInner, MayBegin, token_fits}

-- a byte within an escape or a colour, but the last of it
abbrev pub goes_on : SeenByte → Bool
goes_on seen = seen.counts == 255 && (not (ends_escape seen) && not (seen.byte == 255))

-- a byte behind so many bytes of an escape or a colour that is not ended. One that goes on, or ends a mark that is an escape,
-- is no `:`; it may begin one where it is the first; and the escape has these bytes and this one. Another mark is a quotation
-- mark.
pub record IsWhole (begun : ℕ) (seen : SeenByte) : Type 0 where
  pub inner : goes_on seen ≡ true → (seen.byte ≢ 58) × (begun ≡ 0 → MayBegin seen.byte)
  pub ended : ends_mark seen ≡ true → ends_escape seen ≡ true → (seen.size ≡ begun + 1) × (seen.byte ≢ 58) × (begun ≡ 0 → MayBegin seen.byte)
  pub alone : ends_mark seen ≡ true → ends_escape seen ≡ false → (seen.byte ≡ 34) ⊎ (seen.byte ≡ 39)

abbrev pub AreWhole : (begun : ℕ) → List SeenByte → Type 0
AreWhole begun [] = Unit {0}
AreWhole begun (seen ∷ line) = IsWhole begun seen × AreWhole (if goes_on seen then begun + 1 else 0) line

-- ---- bytes by themselves

plain_ends : (byte : ℕ) → goes_on (by_itself byte) ≡ false
plain_ends byte = go (byte == 255)
  where
    go : (b : Bool) → (b && not b) ≡ false
    go true = refl
    go false = refl

quotation : (byte : ℕ) → ends_mark (by_itself byte) ≡ true → (byte ≡ 34) ⊎ (byte ≡ 39)
quotation byte is = elim (or_cases (byte == 34 || byte == 39) (ends_escape (by_itself byte) && (byte == 10 || byte == 13)) is) [
  | inl quoted ↦ elim (or_cases (byte == 34) (byte == 39) quoted) [
    | inl double ↦ inl (eqb-true byte 34 double)
    | inr single ↦ inr (eqb-true byte 39 single)
  ]
  | inr escape ↦ cc
]

plain_whole : (byte : ℕ) → IsWhole 0 (by_itself byte)
plain_whole byte = record {
  inner = λ on. let ends = plain_ends byte in cc;
  ended = λ is escape. cc;
  alone = λ is single. quotation byte is;
}

plain_bytes_whole : (bytes : List ℕ) (rest : List SeenByte) → AreWhole 0 rest → AreWhole 0 (map by_itself bytes ++ rest)
plain_bytes_whole [] rest whole = whole
plain_bytes_whole (byte ∷ bytes) rest whole = (plain_whole byte, rw (plain_ends byte) (plain_bytes_whole bytes rest whole))

-- ---- bytes of an escape or a colour

within_goes_on : (byte : ℕ) → byte ≢ 255 → goes_on (within byte) ≡ true
within_goes_on byte other = ap not (ne_eqb byte 255 other)

within_whole : (begun byte : ℕ) → byte ≢ 58 → (begun ≡ 0 → MayBegin byte) → IsWhole begun (within byte)
within_whole begun byte no_colon begins = record {
  inner = λ on. (no_colon, begins);
  ended = λ is escape. cc;
  alone = λ is single. cc;
}

last_ends : (seen : SeenByte) → 0 < seen.size → goes_on seen ≡ false
last_ends seen some = go (seen.counts == 255) (nat_le 1 seen.size) (le-leb 1 seen.size some)
  where
    go : (a b : Bool) → b ≡ true → (a && (not b && not (seen.byte == 255))) ≡ false
    go true true is = refl
    go false true is = refl
    go a false is = cc

last_whole : (begun : ℕ) (seen : SeenByte) → seen.size ≡ begun + 1 → seen.byte ≢ 58 → (begun ≡ 0 → MayBegin seen.byte) → IsWhole begun seen
last_whole begun seen sized no_colon begins = record {
  inner = λ on. (no_colon, begins);
  ended = λ is escape. (sized, no_colon, begins);
  alone = λ is single. let h : nat_le 1 seen.size ≡ true = le-leb 1 seen.size (omega arith) in cc;
}

-- `many` of its bytes stand in a text, and the last one behind them
inner_whole : (begun many : ℕ) (text : List ℕ) (last : SeenByte) (rest : List SeenByte) → AreInner many text → (0 < many → begun ≡ 0 → MayBegin (slice_index text 0))
    → IsWhole (begun + many) last → goes_on last ≡ false → AreWhole 0 rest → AreWhole begun (map within (take many text) ++ last ∷ rest)
inner_whole begun zero text last rest inner begins whole ends others =
    let same : begun + 0 ≡ begun = omega arith in
    let here : IsWhole begun last = let P : ℕ → Type 0 = λ n. IsWhole n last in subst P same whole in
    (here, rw ends others)
inner_whole begun (suc many) [] last rest inner begins whole ends others = absurd inner
inner_whole begun (suc many) (byte ∷ text) last rest inner begins whole ends others =
    let same : begun + suc many ≡ begun + 1 + many = omega arith in
    let behind : IsWhole (begun + 1 + many) last = let P : ℕ → Type 0 = λ n. IsWhole n last in subst P same whole in (
      within_whole begun byte inner.0.0 (begins (omega arith)),
      rw (within_goes_on byte inner.0.1) (inner_whole (begun + 1) many text last rest inner.1 (λ some none. absurd (omega arith)) behind ends others),
    )

-- ---- tokens

fewer : (many : ℕ) (text : List ℕ) → AreInner (suc many) text → AreInner many text × IsInner (slice_index text many)
fewer many [] inner = absurd inner
fewer zero (byte ∷ text) inner = (tt, inner.0)
fewer (suc many) (byte ∷ text) inner = let rest = fewer many text inner.1 in ((inner.0, rest.0), rest.1)

counted_by : (many : ℕ) (counts : ℕ) (is_edge : Bool) (text : List ℕ) (rest : List SeenByte) → IsClear (suc many) text → AreWhole 0 rest
    → AreWhole 0 ((map within (take many text) ++ record { size = suc many; byte = slice_index text many; counts = counts; is_edge = is_edge } ∷ []) ++ rest)
counted_by many counts is_edge text rest clear whole =
    let inner = fewer many text clear.1 in
    let last : SeenByte = record { size = suc many; byte = slice_index text many; counts = counts; is_edge = is_edge } in
    rw append_assoc (inner_whole 0 many text last rest inner.0 (λ some none. clear.2)
    (last_whole (0 + many) last (omega arith) inner.1.0 (λ none. let n : many ≡ 0 = omega arith in rw n clear.2))
    (last_ends last (omega arith)) whole)

counted_whole : (size counts : ℕ) (is_edge : Bool) (text : List ℕ) (rest : List SeenByte) → IsClear size text → AreWhole 0 rest
    → AreWhole 0 (counted size counts is_edge text ++ rest)
counted_whole zero counts is_edge text rest clear whole = absurd (omega arith)
counted_whole (suc many) counts is_edge text rest clear whole =
    let same : suc many - 1 ≡ many = omega arith in rw same (counted_by many counts is_edge text rest clear whole)

token_whole : (token : Token) (text : List ℕ) (rest : List SeenByte) → Fits token text → AreWhole 0 rest → AreWhole 0 (token_bytes token text ++ rest)
token_whole (Bytes size) text rest fits whole = plain_bytes_whole (take size text) rest whole
token_whole (Escaped escape) text rest fits whole = counted_whole escape.size _ _ text rest fits whole
token_whole (Colour size) text rest fits whole = counted_whole size 255 true text rest fits whole

all_whole : (skip : ℕ) (text : List ℕ) → AreWhole 0 (counted_from skip text)
unfolding counted_from
all_whole skip [] = tt
all_whole (suc skip) (byte ∷ text) = all_whole skip text
all_whole zero (byte ∷ text) =
    token_whole (token_of (byte ∷ text)) (byte ∷ text) _ (token_fits byte text) (all_whole (token_size (token_of (byte ∷ text)) - 1) text)

-- ---- settled

edge_whole : (begun : ℕ) (seen : SeenByte) (is_edge : Bool) → IsWhole begun seen → IsWhole begun (record seen { is_edge = is_edge })
edge_whole begun seen is_edge whole = record { inner = whole.inner; ended = whole.ended; alone = whole.alone }

-- an apostrophe that counts as a sign
abbrev pub as_sign : SeenByte → SeenByte
as_sign seen = record seen { counts = 226; is_edge = false }

pub no_line_end : (b : Bool) → (b && false) ≡ true → ⊥
no_line_end true is = cc
no_line_end false is = cc

sign_whole : (begun : ℕ) (seen : SeenByte) → IsWhole begun (as_sign seen)
sign_whole begun seen = record {
  inner = λ on. cc;
  ended = λ is escape. absurd (no_line_end (ends_escape seen) is);
  alone = λ is single. absurd (no_line_end (ends_escape seen) is);
}

abbrev pub IsSettled : (one other : SeenByte) → Type 0
IsSettled one other = (goes_on other ≡ goes_on one) × ((begun : ℕ) → IsWhole begun one → IsWhole begun other)

settled_whole : (before : List SeenByte) (one : SeenByte) (text : List ℕ) → IsSettled one (settled before one text)
unfolding settled
settled_whole before one text = go (is_before_path one text) (is_apostrophe before one text) (is_before_root before one text) refl
  where
    go : (path word root : Bool) → is_apostrophe before one text ≡ word
        → IsSettled one (if path then record one { is_edge = not (ends_with_drive before || ends_with_file before) }
        else if word then record one { counts = 226; is_edge = false } else if root then record one { is_edge = true } else one)
    go true word root is = (refl, λ begun whole. edge_whole begun one _ whole)
    go false true root is =
        let quote = eqb-true one.counts 39 (and_parts (one.counts == 39) _ is).0 in
        (rw quote refl, λ begun whole. sign_whole begun one)
    go false false true is = (refl, λ begun whole. edge_whole begun one _ whole)
    go false false false is = (refl, λ begun whole. whole)

all_settled : (begun : ℕ) (before : List SeenByte) (text : List ℕ) (seen : List SeenByte) → AreWhole begun seen → AreWhole begun (settled_from before text seen)
unfolding settled_from
all_settled begun before text [] whole = tt
all_settled begun before text (one ∷ seen) whole =
    let settles = settled_whole before one (drop 1 text) in
    (settles.1 begun whole.0, rw settles.0 (all_settled (if goes_on one then begun + 1 else 0) (one ∷ before) (drop 1 text) seen whole.1))

pub seen_whole : (line : List ℕ) → AreWhole 0 (seen_of line)
unfolding seen_of
seen_whole line = all_settled 0 [] line (counted_from 0 line) (all_whole 0 line)
