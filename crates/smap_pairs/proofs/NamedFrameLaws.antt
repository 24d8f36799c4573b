-- The place of the frame that a whole line is: it is the only one.
use Rattle.std.proofs.Common.{◌≡◌, ◌==◌, ◌&&◌, ◌||◌, ◌+◌, ◌-◌, ◌<◌, ◌≤◌, ℕ, Bool, true, false, cond, List, [], ◌∷◌, Option, Some, None}
use Rattle.std.proofs.Common.{ap, arith, drop, length, refl, sym, take, ◌∙◌}
use Rattle.std.specs.List.{cons_option, filter_map, slice_range}
use Rattle.std.proofs.lemmas.Bool.{eq-eqb, eqb-true, ne_eqb}
use Rattle.std.proofs.lemmas.List.{nil_from_length, take_all}
use Rattle.smap_pairs.specs.FrameUrl.{is_for_pattern}
use Rattle.smap_pairs.specs.Known.{UrlsKnown}
use Rattle.smap_pairs.specs.LinePlaces.{frame_at, frame_in, frame_span, frame_with, has_frame_url, in_frame, line_with, of_pair, or_else, pair_place, place_of, places_in, span_of, start_of, whole_line}
use Rattle.smap_pairs.specs.Pairs.{AreInOrder, pairs_of}
use Rattle.smap_pairs.specs.Seen.{seen_of}
use Rattle.smap_pairs.specs.VirtualLines.{lines_of_strings, virtual_lines}
use Rattle.smap_pairs.specs.declared.line_places.Span.{Span}
use Rattle.smap_pairs.specs.declared.pairs.Pair.{Pair}
use Rattle.smap_pairs.specs.declared.seen.SeenByte.{SeenByte}
use Rattle.smap_pairs.specs.declared.virtual_lines.VirtualLine.{VirtualLine}
use Rattle.smap_pairs.proofs.FramePlaceLaws.{found_at}
use Rattle.smap_pairs.proofs.PairAtLaws.{at}

-- ---- without a pair

pub no_pairs : (known : UrlsKnown) (text : List ℕ) (pairs : List Pair) → pairs ≡ pairs_of text → length pairs ≡ 0 → places_in known text (seen_of text) ≡ []
unfolding places_in
no_pairs known text pairs are none =
    ap (λ (pairs : List Pair). filter_map (place_of known text (seen_of text) pairs) pairs) (sym are ∙ nil_from_length pairs none)

-- ---- which pairs have a frame

none_behind : (bytes piece : ℕ) (pairs : List Pair) (span : Span) → AreInOrder piece bytes pairs → span.url_end < piece → filter_map (of_pair span) pairs ≡ []
none_behind bytes piece [] span order less = refl
none_behind bytes piece (pair ∷ pairs) span order less =
    ap (λ b. cons_option (cond b (Some span) None) (filter_map (of_pair span) pairs)) (ne_eqb span.url_end pair.start (λ is. omega (arith, is, less, order.1)))
    ∙ none_behind bytes pair.end pairs span order.4 (omega (arith, less, order.1, order.2))

one_has : (bytes piece : ℕ) (pairs : List Pair) (pair : Pair) (span : Span) → AreInOrder piece bytes pairs → at span.url_end pairs ≡ Some pair
    → filter_map (of_pair span) pairs ≡ span ∷ []
one_has bytes piece [] pair span order found = absurd (cc)
one_has bytes piece (one ∷ pairs) pair span order found =
    go (one.start == span.url_end) refl found (one_has bytes one.end pairs pair span order.4)
  where
    go : (here : Bool) → (one.start == span.url_end) ≡ here → cond here (Some one) (at span.url_end pairs) ≡ Some pair
        → (at span.url_end pairs ≡ Some pair → filter_map (of_pair span) pairs ≡ span ∷ []) → filter_map (of_pair span) (one ∷ pairs) ≡ span ∷ []
    go true here found later =
        let same : span.url_end ≡ one.start = sym (eqb-true one.start span.url_end here) in
        ap (λ b. cons_option (cond b (Some span) None) (filter_map (of_pair span) pairs)) (eq-eqb span.url_end one.start same)
        ∙ ap (λ l. span ∷ l) (none_behind bytes one.end pairs span order.4 (omega (arith, same, order.2)))
    go false here found later =
        let other : (span.url_end == one.start) ≡ false = ne_eqb span.url_end one.start (λ is. cc (here, eq-eqb one.start span.url_end (sym is))) in
        ap (λ b. cons_option (cond b (Some span) None) (filter_map (of_pair span) pairs)) other ∙ later found

-- ---- the frame of a line

module _ (known : UrlsKnown) (text : List ℕ) (start end : ℕ) (pair : Pair) (url : known.frame_url text ≡ Some (start, end))
    (found : at end (pairs_of text) ≡ Some pair)
    (has : has_frame_url known text (seen_of text) (whole_line (length text)) pair start (slice_range text start pair.start) ≡ true) where
  abbrev seen : List SeenByte
  seen = seen_of text

  abbrev span : Span
  span = in_frame 0 (span_of pair start end false)

  abbrev whole : VirtualLine
  whole = whole_line (length text)

  same_end : pair.start ≡ end
  same_end = found_at end (pairs_of text) pair found

  spanned : frame_span known text seen whole pair start ≡ Some span
  spanned =
      ap (λ b. cond b (Some (in_frame 0 (span_of pair start pair.start false))) None) has ∙ ap (λ n. Some (in_frame 0 (span_of pair start n false))) same_end

  framed : frame_in known text seen (pairs_of text) (Some whole) ≡ Some span
  framed =
      ap (λ l. frame_at known text seen (pairs_of text) whole (known.frame_url l))
      (let all : length text - 0 ≡ length text = omega arith in ap (λ n. take n text) all ∙ take_all (length text) text (omega arith))
      ∙ ap (frame_at known text seen (pairs_of text) whole) url
      ∙ (let from : 0 + start ≡ start = omega arith in let to : 0 + end ≡ end = omega arith in
      λ i. frame_with known text seen whole (from i) (at (to i) (pairs_of text)))
      ∙ ap (frame_with known text seen whole start) found ∙ spanned

  pub frame_alone : AreInOrder 0 (length text) (pairs_of text) → places_in known text (seen_of text) ≡ span ∷ []
  unfolding places_in
  frame_alone order =
      ap (λ (frame : Option Span). filter_map (λ (pair : Pair). or_else frame pair
      (or_else (frame_in known text seen (pairs_of text) (line_with (lines_of_strings seen) pair.start)) pair
      (or_else (frame_in known text seen (pairs_of text) (line_with (virtual_lines seen) pair.start)) pair
      (pair_place known text seen (start_of (line_with (virtual_lines seen) pair.start)) pair)))) (pairs_of text)) framed
      ∙ one_has (length text) 0 (pairs_of text) pair span order found
