-- The places of a text begin and end between two characters of its strings of JSON.
use Rattle.std.proofs.Common.{◌≡◌, ◌≢◌, ◌==◌, ◌&&◌, ◌<◌, ◌≤◌, ◌+◌, ◌-◌, ◌⊎◌, inl, inr, ℕ, zero, suc, Bool, true, false, List, [], ◌∷◌, ◌++◌, Some, IfSome, ap, arith, drop, length, map, refl, subst, sym, take, ◌∙◌}
use Rattle.std.specs.Prelude.{if◌then◌else◌, not}
use Rattle.std.specs.Char.{is_ascii_alphanumeric}
use Rattle.std.specs.List.{All, flat_map, slice_range}
use Rattle.std.proofs.Math.Seq.{take-add}
use Rattle.std.proofs.lemmas.Bool.{and_parts, cases_lt, eq-eqb, eqb-true, or_cases, or_parts}
use Rattle.std.proofs.lemmas.List.{drop-take, length-take, take-take}
use Rattle.std.proofs.lemmas.List.Elements.{All-cons, All-head, All-nil, All-tail}
use Rattle.std.proofs.lemmas.Option.{IfSome_then}
use Rattle.smap_pairs.specs.Chunks.{Cut, begins_anew, chunk, cut_bytes, cuts_from, cuts_of, first_chunk, line_bytes, stays}
use Rattle.smap_pairs.specs.Json.{InString, all_may_stand, has_quotation_mark, may_stand, past, past_all}
use Rattle.smap_pairs.specs.Json.InString.{before_digits, behind_backslash, between}
use Rattle.smap_pairs.specs.Known.{IsFrameUrlWithin, UrlsKnown}
use Rattle.smap_pairs.specs.Spans.{AreSpansInOrder}
use Rattle.smap_pairs.specs.StringPlaces.{AreForStrings, BeginsAnew, IsBehindSign, IsWithoutQuotationMark, StandsBetween}
use Rattle.smap_pairs.specs.declared.chunk.Chunk.{Chunk}
use Rattle.smap_pairs.specs.declared.line_places.Span.{Span}
use Rattle.smap_pairs.specs.Laws.Chunks.{behind_first, first_within}
use Rattle.smap_pairs.proofs.JsonLaws.{past_both, past_line_end}
use Rattle.smap_pairs.proofs.SpansLaws.{spans_in_order}
use Rattle.smap_pairs.proofs.StringPlaceLaws.{all_between, all_without}
use Rattle.smap_anywhere.specs.ChunkParts.{chunk_parts, cut_parts, line_of, parts_by_spans, parts_in, place_of_span, spans_of}
use Rattle.smap_anywhere.specs.Parts.{Part, PlaceUrl, found, other, part_bytes}
use Rattle.smap_anywhere.proofs.ChunkBegins.{Begins, BeginsWith, begins_between, next_begins}
use Rattle.smap_anywhere.proofs.LineOfLaws.{spans_in_more}
use Rattle.smap_anywhere.proofs.PartStates.{Each, IsPlaced, Stand, each_both}
use Rattle.smap_anywhere.proofs.TextPartsLaws.{cut_whole}

-- ---- the places of a chunk

-- a place begins between two characters, if its bytes may stand there, and it ends between two
abbrev pub StandsAt : InString → (text : List ℕ) → Span → Type 0
StandsAt state text span =
    (all_may_stand (past_all state (take span.start text)) (slice_range text span.start span.end) ≡ true → past_all state (take span.start text) ≡ between)
    × (past_all state (take span.end text) ≡ between)

pub others_are : (bytes : List ℕ) → flat_map part_bytes (map other bytes) ≡ bytes
others_are [] = refl
others_are (byte ∷ bytes) = ap (λ l. byte ∷ l) (others_are bytes)

-- what stands before a byte, and what stands from there to another
pub past_range : (state : InString) (text : List ℕ) (from to : ℕ) → from ≤ to
    → past_all (past_all state (take from text)) (slice_range text from to) ≡ past_all state (take to text)
past_range state text from to order =
    let sum : from + (to - from) ≡ to = omega (arith, order) in
    sym (past_both state (take from text) (slice_range text from to)) ∙ ap (past_all state) (sym (take-add from (to - from) text))
    ∙ ap (λ n. past_all state (take n text)) sum

module _ (P : InString → PlaceUrl → (bytes : List ℕ) → Type 0) where
  pub others_each : (state : InString) (bytes : List ℕ) → Each P state (map other bytes)
  others_each state [] = tt
  others_each state (byte ∷ bytes) = others_each (past state byte) bytes

  -- bytes that are in no place, and the next place
  pub place_each : (state : InString) (text : List ℕ) (from begin end : ℕ) (place : PlaceUrl) (rest : List Part) → from ≤ begin → begin ≤ end
      → P (past_all state (take begin text)) place (slice_range text begin end) → Each P (past_all state (take end text)) rest
      → Each P (past_all state (take from text)) (map other (slice_range text from begin) ++ found place (slice_range text begin end) ∷ rest)
  place_each state text from begin end place rest least most is more =
      let before : List ℕ = slice_range text from begin in
      let own : List ℕ = slice_range text begin end in
      let first : past_all (past_all state (take from text)) (flat_map part_bytes (map other before)) ≡ past_all state (take begin text) =
      ap (past_all (past_all state (take from text))) (others_are before) ∙ past_range state text from begin least in
      let second : past_all (past_all state (take begin text)) own ≡ past_all state (take end text) = past_range state text begin end most in
      each_both P (past_all state (take from text)) (map other before) _ (others_each (past_all state (take from text)) before)
      (subst (λ s. Each P s (found place own ∷ rest)) (sym first) (is, subst (λ s. Each P s rest) (sym second) more))

spans_stand : (state : InString) (text : List ℕ) (from : ℕ) (spans : List Span) → AreSpansInOrder from (length text) spans → All (StandsAt state text) spans
    → Stand (past_all state (take from text)) (parts_by_spans text from spans)
spans_stand state text from [] order stand = others_each IsPlaced (past_all state (take from text)) (drop from text)
spans_stand state text from (span ∷ spans) order stand =
    let here = All-head (StandsAt state text) span spans stand in
    let size : span.start ≤ span.end = omega (arith, order.1, order.2) in
    place_each IsPlaced state text from span.start span.end (place_of_span text span) (parts_by_spans text span.end spans) order.0 size
    (here.0, past_range state text span.start span.end size ∙ here.1)
    (spans_stand state text span.end spans order.4 (All-tail (StandsAt state text) span spans stand))

-- ---- a chunk and its line

pub range_of_front : {X : Type 0} (text : List X) (size begin end : ℕ) → begin ≤ end → end ≤ size → slice_range (take size text) begin end ≡ slice_range text begin end
range_of_front text size begin end order within =
    let sum : begin + (size - begin) ≡ size = omega (arith, order, within) in
    ap (λ n. take (end - begin) (drop begin (take n text))) (sym sum) ∙ ap (take (end - begin)) (drop-take begin (size - begin) text)
    ∙ take-take (end - begin) (size - begin) (drop begin text) (omega (arith, within))

begin_letter : (byte : ℕ) (state : InString) → BeginsWith state byte → (state ≡ between) ⊎ (is_ascii_alphanumeric byte ≡ false)
begin_letter byte state (inl is) = inl is
begin_letter byte state (inr (inl is)) = inr (ap is_ascii_alphanumeric is)
begin_letter byte state (inr (inr (inl is))) = inr (ap is_ascii_alphanumeric is)
begin_letter byte state (inr (inr (inr (inl is)))) = inr (ap is_ascii_alphanumeric is.0)
begin_letter byte state (inr (inr (inr (inr is)))) = inr (ap is_ascii_alphanumeric is)

line_begins : (state : InString) (byte : ℕ) (text : List ℕ) (size : ℕ) → BeginsWith state byte → BeginsAnew state (take size (byte ∷ text))
line_begins state byte text zero begins = inr refl
line_begins state byte text (suc size) begins = begin_letter byte state begins

-- a place that begins with its chunk
blank_between : (state : InString) → may_stand state 32 ≡ true → state ≡ between
blank_between between may = refl
blank_between behind_backslash may = cc
blank_between (before_digits more) may = cc

hash_between : (state : InString) → may_stand state 35 ≡ true → state ≡ between
hash_between between may = refl
hash_between behind_backslash may = cc
hash_between (before_digits more) may = cc

slash_between : (state : InString) → state ≢ behind_backslash → may_stand state 92 ≡ true → state ≡ between
slash_between between unlike may = refl
slash_between behind_backslash unlike may = absurd (unlike refl)
slash_between (before_digits more) unlike may = cc

first_between : (state : InString) (byte : ℕ) → BeginsWith state byte → byte ≢ 34 → may_stand state byte ≡ true → state ≡ between
first_between state byte (inl is) unlike may = is
first_between state byte (inr (inl is)) unlike may = blank_between state (ap (may_stand state) (sym is) ∙ may)
first_between state byte (inr (inr (inl is))) unlike may = absurd (unlike is)
first_between state byte (inr (inr (inr (inl is)))) unlike may = slash_between state is.1 (ap (may_stand state) (sym is.0) ∙ may)
first_between state byte (inr (inr (inr (inr is)))) unlike may = hash_between state (ap (may_stand state) (sym is) ∙ may)

begins_with_mark : (byte end : ℕ) (text : List ℕ) → 0 < end → has_quotation_mark (take end (byte ∷ text)) ≡ false → byte ≢ 34
begins_with_mark byte zero text some none is = absurd (omega arith)
begins_with_mark byte (suc end) text some none is =
    let on : (byte == 34) ≡ true = eq-eqb byte 34 is in let off = (or_parts (byte == 34) _ none).0 in cc

starts_between : (state : InString) (byte end : ℕ) (text : List ℕ) → BeginsWith state byte → 0 < end → has_quotation_mark (take end (byte ∷ text)) ≡ false
    → all_may_stand state (take end (byte ∷ text)) ≡ true → state ≡ between
starts_between state byte zero text begins some none may = absurd (omega arith)
starts_between state byte (suc end) text begins some none may =
    first_between state byte begins (begins_with_mark byte (suc end) text some none) (and_parts (may_stand state byte) _ may).0

module _ (known : UrlsKnown) (strings : AreForStrings known) (state : InString) (byte : ℕ) (text : List ℕ) (begins : BeginsWith state byte) where
  abbrev whole : List ℕ
  whole = byte ∷ text

  abbrev line : List ℕ
  line = line_of whole

  span_stands : (span : Span) → span.start ≤ span.url_end → span.url_end < span.end → span.end ≤ length line → StandsBetween state line span
      → IsWithoutQuotationMark known line span → StandsAt state whole span
  span_stands span order some within stands without = (begin, last)
    where
      few : span.end ≤ line_bytes whole
      few = omega (arith, within, length-take (line_bytes whole) whole)

      start : take span.start line ≡ take span.start whole
      start = take-take span.start (line_bytes whole) whole (omega (arith, order, some, few))

      own : slice_range line span.start span.end ≡ slice_range whole span.start span.end
      own = range_of_front whole (line_bytes whole) span.start span.end (omega (arith, order, some)) few

      last : past_all state (take span.end whole) ≡ between
      last = ap (past_all state) (sym (take-take span.end (line_bytes whole) whole few)) ∙ stands.end

      -- the first of its bytes is that of the chunk
      at_start : span.start ≡ 0 → IsWithoutQuotationMark known line span
          → all_may_stand (past_all state (take span.start whole)) (slice_range whole span.start span.end) ≡ true → past_all state (take span.start whole) ≡ between
      at_start is (inl (frame, numbers)) may = absurd (no_frame (strings.frames line) frame)
        where
          no_frame : IfSome (known.frame_url line) (IsBehindSign line) → known.frame_url line ≡ Some (span.start, span.url_end) → ⊥
          no_frame behind frame = let sign = subst (λ url. IfSome url (IsBehindSign line)) frame behind in omega (arith, is, sign.2)
      at_start is (inr none) may =
          let none_here : has_quotation_mark (take (span.end - 0) whole) ≡ false =
          ap (λ n. has_quotation_mark (take (span.end - n) (drop n whole))) (sym is) ∙ ap has_quotation_mark (sym own) ∙ none in
          let stands_here : all_may_stand state (take (span.end - 0) whole) ≡ true =
          ap (λ n. all_may_stand (past_all state (take n whole)) (take (span.end - n) (drop n whole))) (sym is) ∙ may in
          ap (λ n. past_all state (take n whole)) is
          ∙ starts_between state byte (span.end - 0) text begins (omega (arith, some)) none_here stands_here

      begin : all_may_stand (past_all state (take span.start whole)) (slice_range whole span.start span.end) ≡ true → past_all state (take span.start whole) ≡ between
      begin may = elim (cases_lt 0 span.start) [
        | inl later ↦
            ap (past_all state) (sym start)
            ∙ stands.begin later (ap (λ l. all_may_stand (past_all state l) (slice_range line span.start span.end)) start
            ∙ ap (all_may_stand (past_all state (take span.start whole))) own ∙ may)
        | inr first ↦ at_start (omega (arith, first)) without may
      ]

  all_at : (from : ℕ) (spans : List Span) → AreSpansInOrder from (length line) spans → All (StandsBetween state line) spans
      → All (IsWithoutQuotationMark known line) spans → All (StandsAt state whole) spans
  all_at from [] order stand without = All-nil (StandsAt state whole)
  all_at from (span ∷ spans) order stand without =
      All-cons (StandsAt state whole) span spans
      (span_stands span order.1 order.2 order.3 (All-head (StandsBetween state line) span spans stand)
      (All-head (IsWithoutQuotationMark known line) span spans without))
      (all_at span.end spans order.4 (All-tail (StandsBetween state line) span spans stand) (All-tail (IsWithoutQuotationMark known line) span spans without))

  within : (line : List ℕ) → IsFrameUrlWithin known line
  within line = IfSome_then (known.frame_url line) (strings.frames line) (λ url behind. (behind.0, behind.1))

  pub chunk_stands : Stand state (chunk_parts known whole)
  unfolding chunk_parts
  chunk_stands =
      let order = spans_in_order known line within in
      let few : length line ≤ length whole = omega (arith, length-take (line_bytes whole) whole) in
      spans_stand state whole 0 (spans_of known whole) (spans_in_more 0 (length line) (length whole) (spans_of known whole) few order)
      (all_at 0 (spans_of known whole) order (all_between known strings line state (line_begins state byte text (line_bytes whole) begins))
      (all_without known strings line))

-- ---- a text

-- what stands behind a chunk that is broken off stays, up to where one begins
abbrev pub BeginsIf : (is_broken : Bool) → InString → (text : List ℕ) → Type 0
BeginsIf is_broken state text = (is_broken ≡ true) ⊎ Begins state text

anew : (byte : ℕ) (state : InString) → begins_anew byte ≡ true → BeginsWith state byte
anew byte state is = elim (or_cases (byte == 34) (byte == 32) is) [
  | inl quote ↦ inr (inr (inl (eqb-true byte 34 quote)))
  | inr blank ↦ inr (inl (eqb-true byte 32 blank))
]

first_begins : (is_broken : Bool) (byte : ℕ) (state : InString) (text : List ℕ) → (is_broken && not (begins_anew byte)) ≡ false
    → BeginsIf is_broken state (byte ∷ text) → BeginsWith state byte
first_begins false byte state text goes (inl is) = cc
first_begins true byte state text goes (inl is) = anew byte state (not_is (begins_anew byte) goes)
  where
    not_is : (b : Bool) → not b ≡ false → b ≡ true
    not_is true is = refl
    not_is false is = cc
first_begins is_broken byte state text goes (inr begins) = begins

byte_behind : (state : InString) (byte : ℕ) (text : List ℕ) → BeginsIf (not (byte == 10)) (past state byte) text
byte_behind state byte text = go (byte == 10) refl
  where
    go : (end : Bool) → (byte == 10) ≡ end → BeginsIf (not end) (past state byte) text
    go true is = inr (begins_between (past state byte) text (ap (past state) (eqb-true byte 10 is) ∙ past_line_end state))
    go false is = inl refl

-- what holds of each place of a chunk, wherever that begins
module _ (P : InString → PlaceUrl → (bytes : List ℕ) → Type 0) (parts : Cut → List Part) (of_byte : (byte : ℕ) → parts (stays byte) ≡ other byte ∷ [])
    (are_bytes : (cut : Cut) → flat_map part_bytes (parts cut) ≡ cut_bytes cut)
    (of_chunk : (state : InString) (byte : ℕ) (text : List ℕ) → BeginsWith state byte → Each P state (parts (chunk (byte ∷ text)))) where
  abbrev InCuts : InString → (within : ℕ) → (is_broken : Bool) → (text : List ℕ) → Type 0
  InCuts state within is_broken text = Each P state (flat_map parts (cuts_from within is_broken text))

  in_cuts : (state : InString) (within : ℕ) (is_broken : Bool) (text : List ℕ) → BeginsIf is_broken state (drop within text) → InCuts state within is_broken text
  unfolding cuts_from
  in_cuts state within is_broken [] begins = tt
  in_cuts state (suc within) is_broken (byte ∷ text) begins = in_cuts state within is_broken text begins
  in_cuts state zero is_broken (byte ∷ text) begins =
      go (is_broken && not (begins_anew byte)) refl (λ state within is_broken. in_cuts state within is_broken text)
    where
      first : Chunk
      first = first_chunk (byte ∷ text)

      own : List ℕ
      own = take first.bytes (byte ∷ text)

      next : InString
      next = past_all state own

      behind : BeginsIf first.is_broken next (drop (first.bytes - 1) text)
      behind = by first.is_broken refl
        where
          by : (broken : Bool) → first.is_broken ≡ broken → BeginsIf first.is_broken next (drop (first.bytes - 1) text)
          by true is = inl is
          by false is =
              inr (subst (Begins next) (sym (behind_first first.bytes byte text (first_within (byte ∷ text) (omega arith)).0))
              (next_begins state (byte ∷ text) is))

      go : (b : Bool) → (is_broken && not (begins_anew byte)) ≡ b
          → ((state : InString) (within : ℕ) (is_broken : Bool) → BeginsIf is_broken state (drop within text) → InCuts state within is_broken text)
          → Each P state (flat_map parts (if b then stays byte ∷ cuts_from 0 (not (byte == 10)) text
          else chunk own ∷ cuts_from (first.bytes - 1) first.is_broken text))
      go true is rest =
          subst (λ l. Each P state (l ++ flat_map parts (cuts_from 0 (not (byte == 10)) text))) (sym (of_byte byte))
          (rest (past state byte) 0 (not (byte == 10)) (byte_behind state byte text))
      go false is rest =
          let begins_here : BeginsWith state byte = first_begins is_broken byte state text is begins in
          each_both P state (parts (chunk own)) _ (in_first first.bytes (first_within (byte ∷ text) (omega arith)).0 begins_here)
          (subst (λ l. Each P (past_all state l) (flat_map parts (cuts_from (first.bytes - 1) first.is_broken text))) (sym (are_bytes (chunk own)))
          (rest next (first.bytes - 1) first.is_broken behind))
        where
          in_first : (bytes : ℕ) → 0 < bytes → BeginsWith state byte → Each P state (parts (chunk (take bytes (byte ∷ text))))
          in_first zero some begins = absurd (omega arith)
          in_first (suc bytes) some begins = of_chunk state byte (take bytes text) begins

  -- of a text
  pub in_text : (text : List ℕ) → Each P between (flat_map parts (cuts_of text))
  in_text text = in_cuts between 0 false text (inr (begins_between between text refl))

module _ (known : UrlsKnown) (strings : AreForStrings known) where
  pub within_all : (line : List ℕ) → IsFrameUrlWithin known line
  within_all line = IfSome_then (known.frame_url line) (strings.frames line) (λ url behind. (behind.0, behind.1))

  pub parts_stand : (text : List ℕ) → Stand between (parts_in known text)
  unfolding parts_in
  parts_stand text =
      in_text IsPlaced (cut_parts known) (λ byte. refl) (cut_whole known within_all) (λ state byte text begins. chunk_stands known strings state byte text begins) text
