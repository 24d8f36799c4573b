-- The parts of a text with its functions: they are its places and the bytes between, of which those of a function are joined with the
-- place behind it.
use Rattle.std.proofs.Common.{◌≡◌, ◌+◌, ◌-◌, ◌<◌, ◌≤◌, ◌++◌, inl, inr, ℕ, Bool, true, false, cond, List, [], ◌∷◌, Option, Some, None}
use Rattle.std.proofs.Common.{ap, append-nil, append_assoc, arith, drop, length, length-append, length-drop, map, refl, subst, sym, take, unwrap_or, ◌∙◌}
use Rattle.std.specs.Prelude.{nat_le, slice_range}
use Rattle.std.specs.List.{flat_map}
use Rattle.std.proofs.Math.Seq.{drop-append_seam}
use Rattle.std.proofs.lemmas.Bool.{cases_lt}
use Rattle.std.proofs.lemmas.Grind.{flat_map-append}
use Rattle.std.proofs.lemmas.List.{drop-drop, drop-take, length-take, map-append, take-append-drop, take-take}
use Rattle.smap_declarations.specs.Frames.{is_name}
use Rattle.smap_lines.specs.Lines.{IsWholeLines}
use Rattle.smap_pairs.specs.Chunks.{Cut, chunk, cuts_of, line_bytes, stays}
use Rattle.smap_pairs.specs.Known.{IsFrameUrlWithin, UrlsKnown}
use Rattle.smap_pairs.specs.Laws.Chunks.{lines_apart}
use Rattle.smap_pairs.specs.Spans.{AreSpansInOrder}
use Rattle.smap_pairs.specs.declared.line_places.Span.{Span}
use Rattle.smap_pairs.proofs.SpansLaws.{spans_in_order}
use Rattle.smap_trace.specs.FunctionNames.{HeadCut, head_cut}
use Rattle.smap_trace.proofs.NameLaws.{cut_joined}
use Rattle.smap_anywhere.specs.ChunkParts.{chunk_parts, cut_parts, line_of, parts_by_spans, parts_in, place_of_span, spans_of}
use Rattle.smap_anywhere.specs.NamedParts.{begin_at, function_at, function_before, function_bytes, function_within, named_by_spans, named_cut_parts}
use Rattle.smap_anywhere.specs.NamedParts.{named_parts_in, place_at}
use Rattle.smap_anywhere.specs.Parts.{FrameFunction, Part, PlaceUrl, found, other, part_bytes}
use Rattle.smap_anywhere.proofs.LineOfLaws.{spans_in_more}
use Rattle.smap_anywhere.proofs.PutLaws.{few_bytes}
use Rattle.smap_anywhere.proofs.TextPartsLaws.{parts_whole}

-- ---- a function before a place

-- what a function is, if there is one
pub within_is : (size : ℕ) (cut : Option HeadCut) (function : FrameFunction) → function_within size cut ≡ Some function
    → (one : HeadCut) × (cut ≡ Some one) × (function.name ≡ one.name) × (function.behind ≡ one.behind)
within_is size None function is = absurd (cc)
within_is size (Some cut) function is = go (nat_le (length cut.name + length cut.behind) size) is
  where
    go : (few : Bool) → cond few (Some (record { name = cut.name; behind = cut.behind })) None ≡ Some function
        → (one : HeadCut) × (Some cut ≡ Some one) × (function.name ≡ one.name) × (function.behind ≡ one.behind)
    go false is = absurd (cc)
    go true is =
        let P : FrameFunction → Type 0 = λ one. (one.name ≡ cut.name) × (one.behind ≡ cut.behind) in
        let same : record { name = cut.name; behind = cut.behind } ≡ function = ap (λ o. unwrap_or o function) is in
        let both = subst P same (refl, refl) in
        (cut, refl, both.0, both.1)

-- the last bytes of what stands from one byte to another
last_of : (text : List ℕ) (from to : ℕ) (front back : List ℕ) → from ≤ to → to ≤ length text → slice_range text from to ≡ front ++ back
    → slice_range text (to - length back) to ≡ back
last_of text from to front back order within is =
    let long : length (slice_range text from to) ≡ to - from =
    omega (arith, order, within, length-take (to - from) (drop from text), length-drop from text) in
    let size : to - from ≡ length front + length back = sym long ∙ ap length is ∙ length-append front back in
    let begin : to - length back ≡ from + length front = omega (arith, size, order) in
    let rest : to - (to - length back) ≡ length back = omega (arith, size, order) in
    ap (λ n. take n (drop (to - length back) text)) rest
    ∙ ap (λ k. take (length back) (drop k text)) begin
    ∙ ap (take (length back)) (sym (drop-drop (length front) from text))
    ∙ sym (drop-take (length front) (length back) (drop from text))
    ∙ ap (λ n. drop (length front) (take n (drop from text))) (sym size)
    ∙ ap (drop (length front)) is
    ∙ drop-append_seam front back

pub name_some : (name : List ℕ) → is_name name ≡ true → 0 < length name
name_some [] is = absurd (cc)
name_some (byte ∷ name) is = omega arith

-- it is a name, and it stands there
pub record IsThere (text : List ℕ) (start : ℕ) (function : FrameFunction) : Type 0 where
  pub is : is_name function.name ≡ true
  pub there : slice_range text (start - (length function.name + length function.behind)) start ≡ function.name ++ function.behind

pub function_there : (text : List ℕ) (from : ℕ) (span : Span) (function : FrameFunction) → span.start ≤ length text
    → function_before text from span ≡ Some function → IsThere text span.start function
function_there text from span function within is =
    let head : List ℕ = slice_range text span.frame_start span.start in
    let one = within_is (span.start - from) (head_cut head) function is in
    let cut : HeadCut = one.0 in
    let joined = cut_joined head cut one.1 in
    let whole : head ≡ cut.before ++ (cut.name ++ cut.behind) = joined.0 ∙ append_assoc cut.before cut.name cut.behind in
    let some : 0 < length cut.name = name_some cut.name joined.1 in
    let size = length-append cut.name cut.behind in
    let order : span.frame_start ≤ span.start = elim (cases_lt span.start span.frame_start) [
      | inl less ↦
          absurd (omega (
            arith,
            less,
            some,
            size,
            ap length whole,
            length-append cut.before (cut.name ++ cut.behind),
            length-take (span.start - span.frame_start) (drop span.frame_start text),
          ))
      | inr order ↦ order
    ] in
    let here = last_of text span.frame_start span.start cut.before (cut.name ++ cut.behind) order within whole in
    record {
      is = ap is_name one.2 ∙ joined.1;
      there = ap (λ n. slice_range text (span.start - n) span.start) ((λ i. length (one.2 i) + length (one.3 i)) ∙ sym size)
          ∙ here ∙ (λ i. sym one.2 i ++ sym one.3 i);
    }

-- ---- parts whose functions stand by themselves

abbrev alone : PlaceUrl → PlaceUrl
alone place = record place { function = None }

abbrev pub own_parts : Part → List Part
own_parts (other byte) = other byte ∷ []
own_parts (found place text) =
    map other (take (function_bytes place.function) text) ++ found (alone place) (drop (function_bytes place.function) text) ∷ []

own_others : (bytes : List ℕ) → flat_map own_parts (map other bytes) ≡ map other bytes
own_others [] = refl
own_others (byte ∷ bytes) = ap (λ l. other byte ∷ l) (own_others bytes)

-- what stands from a byte to another, cut between
pub cut_range : (text : List ℕ) (from mid to : ℕ) → from ≤ mid → mid ≤ to
    → (take (mid - from) (slice_range text from to) ≡ slice_range text from mid) × (drop (mid - from) (slice_range text from to) ≡ slice_range text mid to)
cut_range text from mid to first second =
    let size : to - from ≡ (mid - from) + (to - mid) = omega (arith, first, second) in
    let here : from + (mid - from) ≡ mid = omega (arith, first) in (
      take-take (mid - from) (to - from) (drop from text) (omega (arith, first, second)),
      ap (λ n. drop (mid - from) (take n (drop from text))) size ∙ drop-take (mid - from) (to - mid) (drop from text)
          ∙ ap (take (to - mid)) (drop-drop (mid - from) from text) ∙ ap (λ k. take (to - mid) (drop k text)) here,
    )

pub join_range : (text : List ℕ) (from mid to : ℕ) → from ≤ mid → mid ≤ to → slice_range text from mid ++ slice_range text mid to ≡ slice_range text from to
join_range text from mid to first second =
    let cut = cut_range text from mid to first second in
    (λ i. sym cut.0 i ++ sym cut.1 i) ∙ take-append-drop (mid - from) (slice_range text from to)

pub spans_own : (text : List ℕ) (from : ℕ) (spans : List Span) → AreSpansInOrder from (length text) spans
    → flat_map own_parts (named_by_spans text from spans) ≡ parts_by_spans text from spans
spans_own text from [] order = own_others (drop from text)
spans_own text from (span ∷ spans) order =
    let begin : ℕ = begin_at true text from span in
    let few = few_bytes true text from span order.0 in
    let n : ℕ = function_bytes (function_at true text from span) in
    let size : span.start - begin ≡ n = omega (arith, few) in
    let cut = cut_range text begin span.start span.end (omega (arith, few)) (omega (arith, order.1, order.2)) in
    let first = ap (λ k. map other (take k (slice_range text begin span.end))) (sym size) ∙ ap (map other) cut.0 in
    let second = ap (λ k. found (place_of_span text span) (drop k (slice_range text begin span.end))) (sym size) ∙ ap (found (place_of_span text span)) cut.1 in
    let rest = spans_own text span.end spans order.4 in
    flat_map-append own_parts (map other (slice_range text from begin)) (found (place_at true text from span) (slice_range text begin span.end) ∷ named_by_spans text span.end spans)
    ∙ (λ i. own_others (slice_range text from begin) i ++ ((first i ++ second i ∷ []) ++ rest i))
    ∙ ap (λ l. map other (slice_range text from begin) ++ l)
    (append_assoc (map other (slice_range text begin span.start)) (found (place_of_span text span) (slice_range text span.start span.end) ∷ []) (parts_by_spans text span.end spans))
    ∙ sym (append_assoc (map other (slice_range text from begin)) (map other (slice_range text begin span.start))
    (found (place_of_span text span) (slice_range text span.start span.end) ∷ parts_by_spans text span.end spans))
    ∙ ap (λ l. l ++ found (place_of_span text span) (slice_range text span.start span.end) ∷ parts_by_spans text span.end spans)
    (sym (map-append other (slice_range text from begin) (slice_range text begin span.start))
    ∙ ap (map other) (join_range text from begin span.start (omega (arith, few)) (omega (arith, few))))

-- ---- of a text

pub own_bytes : (part : Part) → flat_map part_bytes (own_parts part) ≡ part_bytes part
own_bytes (other byte) = refl
own_bytes (found place text) =
    let n = function_bytes place.function in
    flat_map-append part_bytes (map other (take n text)) (found (alone place) (drop n text) ∷ [])
    ∙ (λ i. bytes_alone (take n text) i ++ append-nil (drop n text) i) ∙ take-append-drop n text
  where
    bytes_alone : (bytes : List ℕ) → flat_map part_bytes (map other bytes) ≡ bytes
    bytes_alone [] = refl
    bytes_alone (byte ∷ bytes) = ap (λ l. byte ∷ l) (bytes_alone bytes)

pub all_bytes : (parts : List Part) → flat_map part_bytes (flat_map own_parts parts) ≡ flat_map part_bytes parts
all_bytes [] = refl
all_bytes (part ∷ parts) =
    flat_map-append part_bytes (own_parts part) (flat_map own_parts parts) ∙ (λ i. own_bytes part i ++ all_bytes parts i)

module _ (known : UrlsKnown) (within : (line : List ℕ) → IsFrameUrlWithin known line) where
  pub chunk_order : (text : List ℕ) → AreSpansInOrder 0 (length text) (spans_of known text)
  chunk_order text =
      let few : length (line_of text) ≤ length text = omega (arith, length-take (line_bytes text) text) in
      spans_in_more 0 (length (line_of text)) (length text) (spans_of known text) few (spans_in_order known (line_of text) within)

  pub cut_own : (cut : Cut) → flat_map own_parts (named_cut_parts known cut) ≡ cut_parts known cut
  unfolding chunk_parts
  cut_own (stays byte) = refl
  cut_own (chunk text) = spans_own text 0 (spans_of known text) (chunk_order text)

  cuts_own : (cuts : List Cut) → flat_map own_parts (flat_map (named_cut_parts known) cuts) ≡ flat_map (cut_parts known) cuts
  cuts_own [] = refl
  cuts_own (cut ∷ cuts) =
      flat_map-append own_parts (named_cut_parts known cut) (flat_map (named_cut_parts known) cuts) ∙ (λ i. cut_own cut i ++ cuts_own cuts i)

  -- functions by themselves, they are the parts without functions
  pub parts_own : (text : List ℕ) → flat_map own_parts (named_parts_in known text) ≡ parts_in known text
  unfolding parts_in named_parts_in
  parts_own text = cuts_own (cuts_of text)

  -- they are the text
  pub named_whole : (text : List ℕ) → flat_map part_bytes (named_parts_in known text) ≡ text
  named_whole text = sym (all_bytes (named_parts_in known text)) ∙ ap (flat_map part_bytes) (parts_own text) ∙ parts_whole known within text

-- cut after line ends
pub named_apart : (known : UrlsKnown) (first rest : List ℕ) → IsWholeLines first
    → named_parts_in known (first ++ rest) ≡ named_parts_in known first ++ named_parts_in known rest
unfolding named_parts_in
named_apart known first rest whole =
    ap (flat_map (named_cut_parts known)) (lines_apart first rest whole) ∙ flat_map-append (named_cut_parts known) (cuts_of first) (cuts_of rest)
