-- Laws of the parts of a text: they are the text, and a text that is cut after line ends has those of its parts.
use Rattle.std.specs.Prelude.{◌≡◌, ◌≤◌, ◌++◌, ℕ, List, [], ◌∷◌, drop, length, map}
use Rattle.std.specs.List.{flat_map, slice_range}
use Rattle.std.proofs.Common.{ap, arith, refl, sym, ◌∙◌}
use Rattle.std.proofs.lemmas.Grind.{flat_map-append}
use Rattle.std.proofs.lemmas.List.{length-take}
use Rattle.std.proofs.lemmas.List.Folds.{drop_split}
use Rattle.smap_lines.specs.Lines.{IsWholeLines}
use Rattle.smap_pairs.proofs.SpansLaws.{spans_in_order}
use Rattle.smap_pairs.specs.Chunks.{Cut, chunk, cut_bytes, cuts_of, line_bytes, stays}
use Rattle.smap_pairs.specs.Known.{IsFrameUrlWithin, UrlsKnown}
use Rattle.smap_pairs.specs.Laws.Chunks.{cuts_whole, lines_apart}
use Rattle.smap_pairs.specs.Spans.{AreSpansInOrder}
use Rattle.smap_pairs.specs.declared.line_places.Span.{Span}
use Rattle.smap_anywhere.specs.ChunkParts.{chunk_parts, cut_parts, line_of, parts_by_spans, parts_in, place_of_span, spans_of}
use Rattle.smap_anywhere.specs.Parts.{found, other, part_bytes}
use Rattle.smap_anywhere.proofs.LineOfLaws.{spans_in_more}

-- ---- cut after line ends

pub parts_apart : (known : UrlsKnown) (first rest : List ℕ) → IsWholeLines first → parts_in known (first ++ rest) ≡ parts_in known first ++ parts_in known rest
unfolding parts_in
parts_apart known first rest whole =
    ap (flat_map (cut_parts known)) (lines_apart first rest whole) ∙ flat_map-append (cut_parts known) (cuts_of first) (cuts_of rest)

-- ---- the bytes of parts

others_whole : (text : List ℕ) → flat_map part_bytes (map other text) ≡ text
others_whole [] = refl
others_whole (byte ∷ text) = ap (λ l. byte ∷ l) (others_whole text)

spans_whole : (text : List ℕ) (from : ℕ) (spans : List Span) → AreSpansInOrder from (length text) spans →
    flat_map part_bytes (parts_by_spans text from spans) ≡ drop from text
spans_whole text from [] order = others_whole (drop from text)
spans_whole text from (span ∷ spans) order =
    let before = slice_range text from span.start in
    let own = slice_range text span.start span.end in
    let least = order.1 in
    let less = order.2 in
    flat_map-append part_bytes (map other before) (found (place_of_span text span) own ∷ parts_by_spans text span.end spans)
    ∙ ap (λ l. l ++ (own ++ flat_map part_bytes (parts_by_spans text span.end spans))) (others_whole before)
    ∙ ap (λ l. before ++ (own ++ l)) (spans_whole text span.end spans order.4)
    ∙ ap (λ l. before ++ l) (sym (drop_split text span.start span.end (omega (arith, least, less))))
    ∙ sym (drop_split text from span.start order.0)

module _ (known : UrlsKnown) (within : (line : List ℕ) → IsFrameUrlWithin known line) where
  pub cut_whole : (cut : Cut) → flat_map part_bytes (cut_parts known cut) ≡ cut_bytes cut
  unfolding chunk_parts
  cut_whole (stays byte) = refl
  cut_whole (chunk text) =
      let few : length (line_of text) ≤ length text = omega (arith, length-take (line_bytes text) text) in
      spans_whole text 0 (spans_of known text) (spans_in_more 0 (length (line_of text)) (length text) (spans_of known text) few
      (spans_in_order known (line_of text) within))

  pub cuts_whole_by : (cuts : List Cut) → flat_map part_bytes (flat_map (cut_parts known) cuts) ≡ flat_map cut_bytes cuts
  cuts_whole_by [] = refl
  cuts_whole_by (cut ∷ cuts) =
      flat_map-append part_bytes (cut_parts known cut) (flat_map (cut_parts known) cuts)
      ∙ ap (λ l. l ++ flat_map part_bytes (flat_map (cut_parts known) cuts)) (cut_whole cut)
      ∙ ap (λ l. cut_bytes cut ++ l) (cuts_whole_by cuts)

  -- they are the text
  pub parts_whole : (text : List ℕ) → flat_map part_bytes (parts_in known text) ≡ text
  unfolding parts_in
  parts_whole text = cuts_whole_by (cuts_of text) ∙ cuts_whole text
