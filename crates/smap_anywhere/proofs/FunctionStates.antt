-- The function before a place begins between two characters of a string of JSON.
use Rattle.std.proofs.Common.{◌≡◌, ◌+◌, ◌-◌, ◌<◌, ◌≤◌, ◌++◌, inl, inr, ℕ, suc, true, false, List, [], ◌∷◌, Option, Some, None, IfSome}
use Rattle.std.proofs.Common.{ap, append_assoc, arith, drop, get_or, is_some, length, length-append, length-drop, refl, subst, sym, take, ◌∙◌}
use Rattle.std.specs.List.{All, flat_map, list_all, slice_range}
use Rattle.std.proofs.lemmas.Bool.{and_parts, cases_lt}
use Rattle.std.proofs.lemmas.List.{get_or-drop, get_or-take, get_or_at, length-take, take-take}
use Rattle.std.proofs.lemmas.List.Elements.{All-cons, All-head, All-nil, All-tail}
use Rattle.smap_declarations.specs.Bytes.{is_word_byte}
use Rattle.smap_declarations.specs.Frames.{is_name}
use Rattle.smap_pairs.specs.Chunks.{chunk, line_bytes}
use Rattle.smap_pairs.specs.Json.{InString, past_all}
use Rattle.smap_pairs.specs.Json.InString.{between}
use Rattle.smap_pairs.specs.Known.{UrlsKnown}
use Rattle.smap_pairs.specs.Spans.{AreSpansInOrder}
use Rattle.smap_pairs.specs.StringPlaces.{AreForStrings, HasFrame, IsBehindSign, StandsInFrame}
use Rattle.smap_pairs.specs.declared.line_places.Span.{Span}
use Rattle.smap_pairs.proofs.JsonLaws.{past_plain}
use Rattle.smap_pairs.proofs.NamedPlaces.{byte_passed}
use Rattle.smap_pairs.proofs.SpansLaws.{spans_in_order}
use Rattle.smap_pairs.proofs.StringPlaceLaws.{all_in_frames}
use Rattle.smap_trace.specs.FunctionNames.{HeadCut, head_cut}
use Rattle.smap_trace.proofs.NameLaws.{cut_joined}
use Rattle.smap_anywhere.specs.ChunkParts.{line_of, spans_of}
use Rattle.smap_anywhere.specs.JsonParts.{AreFramesKnown}
use Rattle.smap_anywhere.specs.NamedParts.{begin_at, function_before, function_bytes, named_by_spans, named_cut_parts, named_parts_in, place_at}
use Rattle.smap_anywhere.specs.Parts.{FrameFunction, PlaceUrl, part_bytes}
use Rattle.smap_anywhere.proofs.ChunkBegins.{BeginsWith}
use Rattle.smap_anywhere.proofs.FunctionBegins.{HeadBegins, IsBeforeName, frames_begin}
use Rattle.smap_anywhere.proofs.NamedLaws.{all_bytes, chunk_order, cut_own, name_some, within_is}
use Rattle.smap_anywhere.proofs.PartStates.{Each}
use Rattle.smap_anywhere.proofs.PutLaws.{few_bytes}
use Rattle.smap_anywhere.proofs.StringParts.{in_text, others_each, place_each, range_of_front, within_all}
use Rattle.smap_anywhere.proofs.TextPartsLaws.{cut_whole}

-- a part that begins with a function begins between two characters
abbrev pub IsClear : InString → PlaceUrl → (bytes : List ℕ) → Type 0
IsClear state place bytes = is_some place.function ≡ true → state ≡ between

-- ---- the places of a chunk

-- the name of the function before a place begins so
abbrev NamesClear : InString → (text : List ℕ) → Span → Type 0
NamesClear state text span = (cut : HeadCut) → head_cut (slice_range text span.frame_start span.start) ≡ Some cut
    → past_all state (take (span.start - (length cut.name + length cut.behind)) text) ≡ between

function_clear : (state : InString) (text : List ℕ) (from : ℕ) (span : Span) → NamesClear state text span
    → is_some (function_before text from span) ≡ true → past_all state (take (span.start - function_bytes (function_before text from span)) text) ≡ between
function_clear state text from span clear = go (function_before text from span) refl
  where
    go : (function : Option FrameFunction) → function_before text from span ≡ function → is_some function ≡ true
        → past_all state (take (span.start - function_bytes function) text) ≡ between
    go None is some = absurd (cc)
    go (Some function) is some =
        let one = within_is (span.start - from) (head_cut (slice_range text span.frame_start span.start)) function is in
        (λ i. past_all state (take (span.start - (length (one.2 i) + length (one.3 i))) text)) ∙ clear one.0 one.1

spans_clear : (state : InString) (text : List ℕ) (from : ℕ) (spans : List Span) → AreSpansInOrder from (length text) spans → All (NamesClear state text) spans
    → Each IsClear (past_all state (take from text)) (named_by_spans text from spans)
spans_clear state text from [] order clear = others_each IsClear (past_all state (take from text)) (drop from text)
spans_clear state text from (span ∷ spans) order clear =
    let begin : ℕ = begin_at true text from span in
    let few = few_bytes true text from span order.0 in
    place_each IsClear state text from begin span.end (place_at true text from span) (named_by_spans text span.end spans)
    (omega (arith, few)) (omega (arith, order.1, order.2))
    (function_clear state text from span (All-head (NamesClear state text) span spans clear))
    (spans_clear state text span.end spans order.4 (All-tail (NamesClear state text) span spans clear))

-- ---- a chunk

-- a name begins with a byte of a word
first_of_name : (name behind : List ℕ) → is_name name ≡ true → is_word_byte (get_or (name ++ behind) 0 0) ≡ true
first_of_name [] behind is = absurd (cc)
first_of_name (byte ∷ name) behind is = (and_parts (is_word_byte byte) (list_all is_word_byte name) is).0

-- a chunk that begins with one begins between two characters
word_between : (state : InString) (byte : ℕ) → BeginsWith state byte → is_word_byte byte ≡ true → state ≡ between
word_between state byte (inl is) word = is
word_between state byte (inr (inl is)) word = absurd (let none : is_word_byte byte ≡ false = ap is_word_byte is in cc)
word_between state byte (inr (inr (inl is))) word = absurd (let none : is_word_byte byte ≡ false = ap is_word_byte is in cc)
word_between state byte (inr (inr (inr (inl is)))) word = absurd (let none : is_word_byte byte ≡ false = ap is_word_byte is.0 in cc)
word_between state byte (inr (inr (inr (inr is)))) word = absurd (let none : is_word_byte byte ≡ false = ap is_word_byte is in cc)

module _ (known : UrlsKnown) (strings : AreForStrings known) (frames : AreFramesKnown known) (state : InString) (byte : ℕ) (text : List ℕ)
    (begins : BeginsWith state byte) where
  abbrev whole : List ℕ
  whole = byte ∷ text

  abbrev line : List ℕ
  line = line_of whole

  -- that of a frame which begins before it
  module _ (span : Span) (within : span.start ≤ length line) (frame : StandsInFrame known state line span) (cut : HeadCut)
      (is : head_cut (slice_range whole span.frame_start span.start) ≡ Some cut) where
    abbrev begin : ℕ
    begin = span.frame_start

    abbrev size : ℕ
    size = span.start - begin

    abbrev head : List ℕ
    head = slice_range whole begin span.start

    abbrev part : List ℕ
    part = slice_range line begin frame.end

    behind : IsBehindSign part (size, span.url_end - begin)
    behind = subst (λ url. IfSome url (IsBehindSign part)) frame.url (strings.frames part)

    order : begin < span.start
    order = omega (arith, behind.2)

    few : size ≤ frame.end - begin
    few = omega (arith, behind.0, behind.1, length-take (frame.end - begin) (drop begin line))

    line_within : span.start ≤ line_bytes whole
    line_within = omega (arith, within, length-take (line_bytes whole) whole)

    head_is : head ≡ take size part
    head_is =
        sym (range_of_front whole (line_bytes whole) begin span.start (omega (arith, order)) line_within)
        ∙ sym (take-take size (frame.end - begin) (drop begin line) few)

    begins_so : IsBeforeName cut.before
    begins_so =
        let url : HeadBegins part (size, span.url_end - begin) =
        subst (λ url. IfSome url (HeadBegins part)) (sym (frames part) ∙ frame.url) (frames_begin part) in
        url.1 cut (ap head_cut (sym head_is) ∙ is)

    joined : (head ≡ cut.before ++ cut.name ++ cut.behind) × (is_name cut.name ≡ true)
    joined = cut_joined head cut is

    long : length cut.before + (length cut.name + length cut.behind) ≡ size
    long =
        let bytes : length head ≡ size =
        omega (arith, order, within, length-take size (drop begin whole), length-drop begin whole, length-take (line_bytes whole) whole) in
        omega (arith, bytes, ap length joined.0, length-append (cut.before ++ cut.name) cut.behind, length-append cut.before cut.name)

    -- the name is the first of the frame
    at_begin : cut.before ≡ [] → past_all state (take begin whole) ≡ between
    at_begin none = elim (cases_lt 0 begin) [
      | inl later ↦
          ap (past_all state) (sym (take-take begin (line_bytes whole) whole (omega (arith, order, line_within)))) ∙ frame.begin later
      | inr first ↦
          let first_of_line : begin ≡ 0 = omega (arith, first) in
          let some : 0 < span.start - 0 = omega (arith, order) in
          let here : head ≡ cut.name ++ cut.behind = joined.0 ∙ ap (λ l. l ++ cut.name ++ cut.behind) none in
          let first_is : get_or head 0 0 ≡ byte =
          ap (λ n. get_or (slice_range whole n span.start) 0 0) first_of_line ∙ get_or-take (span.start - 0) whole 0 0 some in
          let word : is_word_byte byte ≡ true =
          ap is_word_byte (sym first_is) ∙ ap (λ l. is_word_byte (get_or l 0 0)) here ∙ first_of_name cut.name cut.behind joined.1 in
          ap (λ n. past_all state (take n whole)) first_of_line ∙ word_between state byte begins word
    ]

    -- or it stands behind a blank
    blank_there : (front : List ℕ) → cut.before ≡ front ++ 32 ∷ [] → past_all state (take (suc (begin + length front)) whole) ≡ between
    blank_there front before =
        let rest : List ℕ = cut.name ++ cut.behind in
        let here : head ≡ front ++ 32 ∷ rest =
        joined.0 ∙ append_assoc cut.before cut.name cut.behind ∙ ap (λ l. l ++ rest) before ∙ append_assoc front (32 ∷ []) rest in
        let last : length cut.before ≡ length front + 1 = ap length before ∙ length-append front (32 ∷ []) in
        let inside : length front < size = omega (arith, last, long) in
        let blank : get_or whole (begin + length front) 0 ≡ 32 =
        sym (get_or-drop begin whole (length front) 0) ∙ sym (get_or-take size (drop begin whole) (length front) 0 inside)
        ∙ ap (λ l. get_or l (length front) 0) here ∙ get_or_at front 32 rest 0 (length front) refl in
        byte_passed 32 (λ s. past_plain s 32 refl refl refl) state whole (begin + length front)
        (omega (arith, inside, within, length-take (line_bytes whole) whole)) blank

    frame_clear : IsBeforeName cut.before → past_all state (take (span.start - (length cut.name + length cut.behind)) whole) ≡ between
    frame_clear (inl none) =
        let at : span.start - (length cut.name + length cut.behind) ≡ begin = omega (arith, long, order, ap length none) in
        ap (λ n. past_all state (take n whole)) at ∙ at_begin none
    frame_clear (inr (front, before)) =
        let last : length cut.before ≡ length front + 1 = ap length before ∙ length-append front (32 ∷ []) in
        let at : span.start - (length cut.name + length cut.behind) ≡ suc (begin + length front) = omega (arith, long, order, last) in
        ap (λ n. past_all state (take n whole)) at ∙ blank_there front before

  span_clear : (span : Span) → span.start ≤ length line → HasFrame known state line span → NamesClear state whole span
  span_clear span within (inl same) cut is =
      let head : List ℕ = slice_range whole span.frame_start span.start in
      let joined = cut_joined head cut is in
      let size = length-take (span.start - span.frame_start) (drop span.frame_start whole) in
      let none : length head ≡ 0 = omega (arith, size, same) in
      absurd (omega (
        arith,
        none,
        ap length joined.0,
        length-append (cut.before ++ cut.name) cut.behind,
        length-append cut.before cut.name,
        name_some cut.name joined.1,
      ))
  span_clear span within (inr frame) cut is = frame_clear span within frame cut is (begins_so span within frame cut is)

  all_clear : (from : ℕ) (spans : List Span) → AreSpansInOrder from (length line) spans → All (HasFrame known state line) spans → All (NamesClear state whole) spans
  all_clear from [] order frame = All-nil (NamesClear state whole)
  all_clear from (span ∷ spans) order frame =
      All-cons (NamesClear state whole) span spans
      (span_clear span (omega (arith, order.1, order.2, order.3)) (All-head (HasFrame known state line) span spans frame))
      (all_clear span.end spans order.4 (All-tail (HasFrame known state line) span spans frame))

  chunk_clear : Each IsClear state (named_cut_parts known (chunk whole))
  chunk_clear =
      spans_clear state whole 0 (spans_of known whole) (chunk_order known (within_all known strings) whole)
      (all_clear 0 (spans_of known whole) (spans_in_order known line (within_all known strings)) (all_in_frames known strings line state))

-- ---- a text

pub functions_clear : (known : UrlsKnown) → AreForStrings known → AreFramesKnown known → (text : List ℕ) → Each IsClear between (named_parts_in known text)
unfolding named_parts_in
functions_clear known strings frames text =
    let within = within_all known strings in
    in_text IsClear (named_cut_parts known) (λ byte. refl)
    (λ cut. sym (all_bytes (named_cut_parts known cut)) ∙ ap (flat_map part_bytes) (cut_own known within cut) ∙ cut_whole known within cut)
    (λ state byte text begins. chunk_clear known strings frames state byte text begins) text
