-- Behind an edge a character of JSON begins.
use Rattle.std.proofs.Common.{◌≡◌, ◌++◌, ◌-◌, ◌≤◌, ℕ, inl, inr, zero, suc, Bool, true, false, List, [], ◌∷◌, map, take, drop, max, ap, refl, ◌∙◌, arith, Option, Some, None, leb, slice_get, subst, IfSome}
use Rattle.std.specs.Prelude.{if◌then◌else◌, not, slice_index, ◌==◌, ◌&&◌, ◌||◌}
use Rattle.std.specs.Char.{is_ascii_alphanumeric, is_ascii_hexdigit}
use Rattle.std.specs.Int.{is_in_range}
use Rattle.std.specs.List.{prefix_len}
use Rattle.std.proofs.Math.Bool.{or-true}
use Rattle.std.proofs.Math.Seq.{take-add}
use Rattle.std.proofs.lemmas.Bool.{and_parts, eqb-true, le-leb, leb-true, or_cases, or_parts}
use Rattle.std.proofs.lemmas.Bool.Decides.{nat_tests}
use Rattle.smap_pairs.specs.Bytes.{is_edge_byte, is_letter_or_digit, is_url_sign}
use Rattle.smap_pairs.specs.Colours.{colour_behind}
use Rattle.smap_pairs.specs.Escapes.{escape_of, is_backslash}
use Rattle.smap_pairs.specs.Json.{InString, past, past_all}
use Rattle.smap_pairs.specs.Json.InString.{between}
use Rattle.smap_pairs.specs.Marks.{is_quotation_mark}
use Rattle.smap_pairs.specs.Seen.{by_itself, bytes_of, coloured, counted, counted_from, begins_drive, begins_file, begins_letter, ends_sign, ends_with_drive, ends_with_file, escape_or_colour, first_byte, is_apostrophe, is_before_path, is_before_root, is_continuation, seen_of, settled, settled_from, token_by, token_bytes, token_of, token_size, within}
use Rattle.smap_pairs.specs.declared.escapes.Escape.{Escape}
use Rattle.smap_pairs.specs.declared.seen.SeenByte.{SeenByte}
use Rattle.smap_pairs.specs.declared.token.Token.{Token}
use Rattle.smap_pairs.specs.declared.token.Token.TheVariants.{Bytes, Colour, Escaped}
use Rattle.smap_pairs.proofs.EscapeStates.{colour_passed, escape_passed}
use Rattle.smap_pairs.proofs.JsonLaws.{past_apostrophe, past_both, past_colon, past_plain, past_quotation_mark}
use Rattle.smap_pairs.proofs.SeenBytesLaws.{bytes_kept, bytes_seen, settled_byte}
use Rattle.smap_pairs.proofs.TokenLaws.{AreInner, Fits, IsClear, token_fits}

-- ---- bytes

-- a byte that passes a test is none that does not
pub other_byte : (test : ℕ → Bool) (byte other : ℕ) → test other ≡ false → test byte ≡ true → (byte == other) ≡ false
other_byte test byte other none is = go (byte == other) refl
  where
    go : (same : Bool) → (byte == other) ≡ same → same ≡ false
    go false not_same = refl
    go true same = let here : test byte ≡ test other = ap test (eqb-true byte other same) in cc

narrower : (low high wide byte : ℕ) → high ≤ wide → is_in_range low wide byte ≡ false → is_in_range low high byte ≡ false
narrower low high wide byte less none = go (is_in_range low high byte) refl
  where
    go : (is : Bool) → is_in_range low high byte ≡ is → is ≡ false
    go false other = refl
    go true is =
        let parts = and_parts (leb low byte) (leb byte high) is in
        let most : byte ≤ high = leb-true byte high parts.1 in
        let first : leb low byte ≡ true = parts.0 in
        let second : leb byte wide ≡ true = le-leb byte wide (omega (arith, most, less)) in
        let here : is_in_range low wide byte ≡ true = ap (λ b. b && leb byte wide) first ∙ second in cc

-- no letter and no digit is no hexadecimal digit
pub no_digit : (byte : ℕ) → is_ascii_alphanumeric byte ≡ false → is_ascii_hexdigit byte ≡ false
no_digit byte none =
    let outer = or_parts (is_in_range 48 57 byte || is_in_range 65 90 byte) (is_in_range 97 122 byte) none in
    let inner = or_parts (is_in_range 48 57 byte) (is_in_range 65 90 byte) outer.0 in
    let upper = narrower 65 70 90 byte (omega arith) inner.1 in
    let lower = narrower 97 102 122 byte (omega arith) outer.1 in
    ap (λ b. (b || is_in_range 65 70 byte) || is_in_range 97 102 byte) inner.0
    ∙ ap (λ b. b || is_in_range 97 102 byte) upper ∙ lower

no_word : (word sign : Bool) → not (word || sign) ≡ true → word ≡ false
no_word true sign is = cc
no_word false sign is = refl

pub past_edge : (state : InString) (byte : ℕ) → is_edge_byte byte ≡ true → past state byte ≡ between
past_edge state byte is =
    let none : is_letter_or_digit byte ≡ false = no_word (is_letter_or_digit byte) (is_url_sign byte) is in
    let letter = (or_parts (is_ascii_alphanumeric byte) (leb 128 byte) none).0 in
    past_plain state byte (other_byte is_edge_byte byte 92 refl is) (other_byte is_edge_byte byte 117 refl is) (no_digit byte letter)

-- ---- tokens

-- a run of backslashes that is no escape, or one byte; or else a character begins behind it
abbrev pub IsToken : Token → (text : List ℕ) → Type 0
IsToken (Bytes size) text = (size ≡ max 1 (prefix_len is_backslash text)) × (escape_of text ≡ None)
IsToken (Escaped escape) text = (state : InString) → past_all state (take escape.size text) ≡ between
IsToken (Colour size) text = (state : InString) → past_all state (take size text) ≡ between

coloured_token : (size : ℕ) (otherwise : Token) (text : List ℕ) (colour : Option ℕ) → colour_behind size (drop size text) ≡ colour
    → IsToken otherwise text → IsToken (coloured otherwise colour) text
coloured_token size otherwise text None is token = token
coloured_token size otherwise text (Some end) is token = λ state.
    let passed = colour_passed (past_all state (take size text)) size (drop size text) end is in
    ap (λ n. past_all state (take n text)) passed.1
    ∙ ap (past_all state) (take-add size passed.0 text)
    ∙ past_both state (take size text) (take passed.0 (drop size text)) ∙ passed.2

esc_token : (is_esc : Bool) (size : ℕ) (otherwise : Token) (text : List ℕ) → IsToken otherwise text
    → IsToken (escape_or_colour is_esc size otherwise text) text
esc_token false size otherwise text token = token
esc_token true size otherwise text token = coloured_token size otherwise text (colour_behind size (drop size text)) refl token

token_by_is : (text : List ℕ) (escape : Option Escape) → escape_of text ≡ escape → IsToken (token_by text escape) text
token_by_is text None is = esc_token (slice_index text 0 == 27) 1 (bytes_of text) text (refl, is)
token_by_is text (Some escape) is =
    esc_token (escape.means == 27) escape.size (Escaped escape) text (λ state. escape_passed state text escape is)

pub token_is : (text : List ℕ) → IsToken (token_of text) text
unfolding token_of
token_is text = token_by_is text (escape_of text) refl

-- ---- edges

-- behind each edge, each escape and colour, and each quotation mark, a character begins
abbrev pub may_be_edge : SeenByte → Bool
may_be_edge one = one.is_edge || (not (one.size == 0) || is_quotation_mark one.counts)

abbrev pub Edges : InString → List SeenByte → Type 0
Edges state [] = Unit {0}
Edges state (one ∷ seen) = (may_be_edge one ≡ true → past state one.byte ≡ between) × Edges (past state one.byte) seen

edges_both : (state : InString) (first second : List SeenByte) → Edges state first → Edges (past_all state (bytes_seen first)) second
    → Edges state (first ++ second)
edges_both state [] second one more = more
edges_both state (seen ∷ first) second one more = (one.0, edges_both (past state seen.byte) first second one.1 more)

past_quote : (state : InString) (byte : ℕ) → is_quotation_mark byte ≡ true → past state byte ≡ between
past_quote state byte is = elim (or_cases (byte == 34) (byte == 39) is) [
  | inl quote ↦ ap (past state) (eqb-true byte 34 quote) ∙ past_quotation_mark state
  | inr quote ↦ ap (past state) (eqb-true byte 39 quote) ∙ past_apostrophe state
]

plain_edges : (state : InString) (bytes : List ℕ) → Edges state (map by_itself bytes)
plain_edges state [] = tt
plain_edges state (byte ∷ bytes) = (
  λ edge. elim (or_cases (is_edge_byte byte) (is_quotation_mark byte) edge) [
    | inl is ↦ past_edge state byte is
    | inr is ↦ past_quote state byte is
  ],
  plain_edges (past state byte) bytes,
)

inner_edges : (state : InString) (many : ℕ) (text : List ℕ) (last : SeenByte) → AreInner (suc many) text → last.byte ≡ slice_index text many
    → past_all state (take (suc many) text) ≡ between → Edges state (map within (take many text) ++ last ∷ [])
inner_edges state many [] last inner is passed = absurd inner
inner_edges state zero (byte ∷ text) last inner is passed = ((λ edge. ap (past state) is ∙ passed), tt)
inner_edges state (suc many) (byte ∷ text) last inner is passed =
    ((λ edge. cc), inner_edges (past state byte) many text last inner.1 is passed)

counted_edges : (state : InString) (size counts : ℕ) (is_edge : Bool) (text : List ℕ) → IsClear size text
    → past_all state (take size text) ≡ between → Edges state (counted size counts is_edge text)
counted_edges state zero counts is_edge text clear passed = absurd (omega arith)
counted_edges state (suc many) counts is_edge text clear passed =
    let same : suc many - 1 ≡ many = omega arith in rw same (inner_edges state many text _ clear.1 refl passed)

token_edges : (state : InString) (token : Token) (text : List ℕ) → Fits token text → IsToken token text → Edges state (token_bytes token text)
token_edges state (Bytes size) text fits is = plain_edges state (take size text)
token_edges state (Escaped escape) text fits is = counted_edges state escape.size _ _ text fits (is state)
token_edges state (Colour size) text fits is = counted_edges state size 255 true text fits (is state)

all_edges : (state : InString) (skip : ℕ) (text : List ℕ) → Edges state (counted_from skip text)
unfolding counted_from
all_edges state skip [] = tt
all_edges state (suc skip) (byte ∷ text) = all_edges state skip text
all_edges state zero (byte ∷ text) =
    let token = token_of (byte ∷ text) in
    edges_both state (token_bytes token (byte ∷ text)) (counted_from (token_size token - 1) text)
    (token_edges state token (byte ∷ text) (token_fits byte text) (token_is (byte ∷ text)))
    (all_edges (past_all state (bytes_seen (token_bytes token (byte ∷ text)))) (token_size token - 1) text)

-- ---- settled

-- a byte of a character beyond ASCII is one of no escape
past_continuation : (state : InString) (byte : ℕ) → is_continuation byte ≡ true → past state byte ≡ between
past_continuation state byte is =
    let above : 128 ≤ byte = leb-true 128 byte (and_parts (leb 128 byte) (leb byte 191) is).0 in
    past_plain state byte (other_byte is_continuation byte 92 refl is) (other_byte is_continuation byte 117 refl is) (grind (arith, nat_tests, above))

past_sign : (state : InString) (before : List SeenByte) (one : SeenByte) → (may_be_edge one ≡ true → past state one.byte ≡ between)
    → ends_sign before one ≡ true → past state one.byte ≡ between
past_sign state before one passes = go (one.size == 0) refl
  where
    go : (alone : Bool) → (one.size == 0) ≡ alone
        → (if alone then is_continuation one.byte && not (begins_letter (first_byte before)) else one.counts == 226) ≡ true
        → past state one.byte ≡ between
    go true alone sign = past_continuation state one.byte (and_parts (is_continuation one.byte) _ sign).0
    go false alone sign = passes (ap (λ b. one.is_edge || (not b || is_quotation_mark one.counts)) alone ∙ or-true one.is_edge)

settled_edge : (state : InString) (before : List SeenByte) (one : SeenByte) (text : List ℕ) → (may_be_edge one ≡ true → past state one.byte ≡ between)
    → may_be_edge (settled before one text) ≡ true → past state one.byte ≡ between
unfolding settled
settled_edge state before one text is = go (is_before_path one text) (is_apostrophe before one text) (is_before_root before one text) refl refl
  where
    go : (path word root : Bool) → is_before_path one text ≡ path → is_before_root before one text ≡ root
        → may_be_edge (if path then record one { is_edge = not (ends_with_drive before || ends_with_file before) }
        else if word then record one { counts = 226; is_edge = false } else if root then record one { is_edge = true } else one) ≡ true
        → past state one.byte ≡ between
    go true word root path sign edge = ap (past state) (eqb-true one.byte 58 (and_parts (one.byte == 58) _ path).0) ∙ past_colon state
    go false true root path sign edge = elim (or_cases (not (one.size == 0)) false edge) [
      | inl sized ↦ is (ap (λ b. one.is_edge || (b || is_quotation_mark one.counts)) sized ∙ or-true one.is_edge)
      | inr none ↦ cc
    ]
    go false false true path sign edge =
        past_sign state before one is (and_parts (begins_drive text || begins_file text) (ends_sign before one) sign).1
    go false false false path sign edge = is edge

settled_edges : (state : InString) (before : List SeenByte) (text : List ℕ) (seen : List SeenByte) → Edges state seen
    → Edges state (settled_from before text seen)
unfolding settled_from
settled_edges state before text [] edges = tt
settled_edges state before text (one ∷ seen) edges =
    rw (settled_byte before one (drop 1 text))
    (settled_edge state before one (drop 1 text) edges.0, settled_edges (past state one.byte) (one ∷ before) (drop 1 text) seen edges.1)

edge_at : (state : InString) (at : ℕ) (seen : List SeenByte) → Edges state seen
    → IfSome (slice_get seen at) (λ one. one.is_edge ≡ true → past_all state (take (suc at) (bytes_seen seen)) ≡ between)
edge_at state at [] edges = tt
edge_at state zero (one ∷ seen) edges = λ edge. edges.0 (ap (λ b. b || (not (one.size == 0) || is_quotation_mark one.counts)) edge)
edge_at state (suc at) (one ∷ seen) edges = edge_at (past state one.byte) at seen edges.1

pub line_edges : (state : InString) (line : List ℕ) → Edges state (seen_of line)
unfolding seen_of
line_edges state line = settled_edges state [] line (counted_from 0 line) (all_edges state 0 line)

-- behind each edge of a line
pub edge_passed : (state : InString) (line : List ℕ) (at : ℕ)
    → IfSome (slice_get (seen_of line) at) (λ one. one.is_edge ≡ true → past_all state (take (suc at) line) ≡ between)
edge_passed state line at =
    subst (λ text. IfSome (slice_get (seen_of line) at) (λ one. one.is_edge ≡ true → past_all state (take (suc at) text) ≡ between)) (bytes_kept line)
    (edge_at state at (seen_of line) (line_edges state line))
