-- What becomes of the parts of a text, one after another; and the parts of a chunk from a byte on.
use Rattle.std.proofs.Common.{◌≡◌, ◌<◌, ◌+◌, ◌-◌, ◌≤◌, ℕ, Bool, true, false, cond, List, [], ◌∷◌, ◌++◌, Option, Some, None, length, map, take, drop, sym, subst, ap, refl, ◌∙◌, arith}
use Rattle.std.specs.Prelude.{filter, nat_le}
use Rattle.std.specs.List.{slice_range}
use Rattle.std.proofs.Math.Seq.{take-add}
use Rattle.std.proofs.lemmas.Bool.{le-leb, leb-false, leb-true, lt-leb}
use Rattle.std.proofs.lemmas.List.{drop-drop, map-append}
use Rattle.std.proofs.lemmas.List.Folds.{drop_split}
use Rattle.smap_pairs.specs.Spans.{AreSpansInOrder}
use Rattle.smap_pairs.specs.declared.line_places.Span.{Span}
use Rattle.smap_anywhere.specs.NamedParts.{begin_at, by_names, function_at, function_before, function_bytes, function_text, function_within}
use Rattle.smap_anywhere.specs.NamedParts.{named_by_spans, place_at}
use Rattle.smap_anywhere.specs.Parts.{FrameFunction, Part, PlaceUrl, found, other}
use Rattle.smap_anywhere.specs.Replaced.{is_place, is_replaced_by, part_text_by}
use Rattle.smap_anywhere.proofs.NamedLaws.{function_there}
use Rattle.smap_anywhere.proofs.PutLaws.{few_bytes}
use Rattle.smap_trace.specs.MapsOf.{NamedByUrl}
use Rattle.smap_trace.specs.FunctionNames.{HeadCut, head_cut}
use Rattle.smap_piecewise.specs.Known.{found_under}
use Rattle.smap_piecewise.specs.Outcome.{Outcome, both, text_alone}
use Rattle.smap_piecewise.specs.Places.{of_parts}
use Rattle.smap_piecewise.specs.Private.Places.{AreBehind}
use Rattle.smap_piecewise.specs.Private.PutPlace.{function_put}
use Rattle.smap_piecewise.proofs.OutcomeLaws.{one_more, zero_both}

-- ---- what becomes of them

module _ (maps : NamedByUrl) where
  -- bytes of no place, and those behind them
  pub others_first : (lines : ℕ) (bytes : List ℕ) (parts : List Part)
      → of_parts maps lines (map other bytes ++ parts) ≡ both (text_alone bytes) (of_parts maps lines parts)
  others_first lines [] parts = sym (zero_both (of_parts maps lines parts))
  others_first lines (byte ∷ bytes) parts =
      let more = others_first lines bytes parts in λ i. record {
        text = byte ∷ (more i).text;
        lines = (more i).lines;
        frames = (more i).frames;
        mapped = (more i).mapped;
        hidden = (more i).hidden;
      }

  -- a place
  abbrev pub of_place : PlaceUrl → (bytes : List ℕ) → Outcome
  of_place place bytes = record {
    text = part_text_by by_names (found_under maps) (found place bytes);
    lines = 0;
    frames = 1;
    mapped = cond (is_replaced_by by_names (found_under maps) (found place bytes)) 1 0;
    hidden = 0;
  }

  pub place_first : (lines : ℕ) (place : PlaceUrl) (bytes : List ℕ) (parts : List Part)
      → of_parts maps lines (found place bytes ∷ parts) ≡ both (of_place place bytes) (of_parts maps lines parts)
  place_first lines place bytes parts =
      let part : Part = found place bytes in
      let frames : length (part ∷ filter is_place parts) ≡ 1 + length (filter is_place parts) = omega arith in
      let mapped = one_more (is_replaced_by by_names (found_under maps) part) part (filter (is_replaced_by by_names (found_under maps)) parts) in
      let same : lines ≡ 0 + lines = omega arith in λ i. record {
        text = (of_parts maps lines (part ∷ parts)).text;
        lines = same i;
        frames = frames i;
        mapped = mapped i;
        hidden = 0;
      }

  -- lines that are counted before
  abbrev pub lines_alone : ℕ → Outcome
  lines_alone lines = record { text = []; lines = lines; frames = 0; mapped = 0; hidden = 0 }

  pub lines_first : (first rest lines : ℕ) (parts : List Part) → lines ≡ first + rest
      → of_parts maps lines parts ≡ both (lines_alone first) (of_parts maps rest parts)
  lines_first first rest lines parts is =
      let frames : length (filter is_place parts) ≡ 0 + length (filter is_place parts) = omega arith in
      let mapped : length (filter (is_replaced_by by_names (found_under maps)) parts) ≡ 0 + length (filter (is_replaced_by by_names (found_under maps)) parts) = omega arith in λ i. record {
        text = (of_parts maps lines parts).text;
        lines = is i;
        frames = frames i;
        mapped = mapped i;
        hidden = 0;
      }

-- ---- where the part of a place begins

-- the same function stands before it, up to where its part begins
again : (start from : ℕ) (cut : Option HeadCut) → from ≤ start
    → function_within (start - (start - function_bytes (function_within (start - from) cut))) cut ≡ function_within (start - from) cut
again start from None after = refl
again start from (Some cut) after = go (nat_le n (start - from)) refl
  where
    n : ℕ
    n = length cut.name + length cut.behind

    when : Bool → Option FrameFunction
    when few = cond few (Some (record { name = cut.name; behind = cut.behind })) None

    go : (few : Bool) → nat_le n (start - from) ≡ few
        → when (nat_le n (start - (start - function_bytes (when few)))) ≡ when few
    go true few =
        let less : n ≤ start - from = leb-true n (start - from) few in
        ap when (le-leb n (start - (start - n)) (omega (arith, less)))
    go false many =
        let more : start - from < n = leb-false n (start - from) many in
        ap when (lt-leb n (start - (start - 0)) (omega (arith, more)))

module _ (text : List ℕ) (from : ℕ) (span : Span) (after : from ≤ span.start) where
  abbrev begin : ℕ
  begin = begin_at true text from span

  pub function_again : function_at true text begin span ≡ function_at true text from span
  function_again = again span.start from (head_cut (slice_range text span.frame_start span.start)) after

  pub place_again : place_at true text begin span ≡ place_at true text from span
  place_again = ap (λ (f : Option FrameFunction). record (place_at true text from span) { function = f }) function_again

  pub begin_again : begin_at true text begin span ≡ begin
  begin_again = ap (λ (f : Option FrameFunction). span.start - function_bytes f) function_again

  pub begin_behind : from ≤ begin
  begin_behind = let few = few_bytes true text from span after in omega (arith, few)

  pub begin_before : begin ≤ span.start
  begin_before = omega arith

-- the function and what stands behind it are the bytes from there to the place
pub function_stays : (text : List ℕ) (from : ℕ) (span : Span) → from ≡ begin_at true text from span → span.start ≤ length text
    → slice_range text from span.start ≡ function_put None text from span
function_stays text from span here within = go (function_at true text from span) refl here
  where
    go : (function : Option FrameFunction) → function_before text from span ≡ function → from ≡ span.start - function_bytes function
        → slice_range text from span.start ≡ function_text None (place_at true text from span) function
    go None is here =
        let none : span.start - from ≡ 0 = omega (arith, here) in
        ap (λ n. take n (drop from text)) none
    go (Some function) is here =
        ap (λ n. slice_range text n span.start) here ∙ (function_there text from span function within is).there

-- ---- a chunk from a byte on

slice_both : (text : List ℕ) (low mid high : ℕ) → low ≤ mid → mid ≤ high → slice_range text low high ≡ slice_range text low mid ++ slice_range text mid high
slice_both text low mid high first second =
    let both : high - low ≡ (mid - low) + (high - mid) = omega (arith, first, second) in
    let here : low + (mid - low) ≡ mid = omega (arith, first) in
    ap (λ n. take n (drop low text)) both ∙ take-add (mid - low) (high - mid) (drop low text)
    ∙ ap (λ rest. slice_range text low mid ++ take (high - mid) rest) (drop-drop (mid - low) low text ∙ ap (λ k. drop k text) here)

none_there : (text : List ℕ) (at to : ℕ) → to ≤ at → slice_range text at to ≡ []
none_there text at to past = let none : to - at ≡ 0 = omega (arith, past) in ap (λ n. take n (drop at text)) none

-- the bytes up to where the first part begins, or up to any where there is none
pub parts_up_to : (text : List ℕ) (from end size : ℕ) (spans : List Span) → from ≤ end → AreSpansInOrder from size spans → AreBehind text from end spans
    → named_by_spans text from spans ≡ map other (slice_range text from end) ++ named_by_spans text end spans
parts_up_to text from end size [] after order behind =
    ap (map other) (drop_split text from end after) ∙ map-append other (slice_range text from end) (drop end text)
parts_up_to text from end size (span ∷ spans) after order behind =
    subst (λ n. named_by_spans text from (span ∷ spans) ≡ map other (slice_range text from n) ++ named_by_spans text n (span ∷ spans)) (sym behind)
    (ap (λ (l : List Part). map other (slice_range text from begin) ++ l)
    (λ i. map other (none i) ++ found (sym again_place i) (slice_range text (sym again_begin i) span.end) ∷ named_by_spans text span.end spans))
  where
    begin : ℕ
    begin = begin_at true text from span

    again_begin : begin_at true text begin span ≡ begin
    again_begin = begin_again text from span order.0

    again_place : place_at true text begin span ≡ place_at true text from span
    again_place = place_again text from span order.0

    none : [] ≡ slice_range text begin (begin_at true text begin span)
    none = sym (none_there text begin (begin_at true text begin span) (omega (arith, again_begin)))

-- a place whose part begins there
pub parts_at : (text : List ℕ) (from : ℕ) (span : Span) (spans : List Span) → from ≡ begin_at true text from span
    → named_by_spans text from (span ∷ spans)
    ≡ found (place_at true text from span) (slice_range text from span.end) ∷ named_by_spans text span.end spans
parts_at text from span spans here =
    ap (λ n. map other (slice_range text from n) ++ found (place_at true text from span) (slice_range text n span.end) ∷ named_by_spans text span.end spans) (sym here)
    ∙ ap (λ l. map other l ++ found (place_at true text from span) (slice_range text from span.end) ∷ named_by_spans text span.end spans)
    (none_there text from from (omega arith))
