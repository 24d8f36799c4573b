-- The places of a line stand in it in their order, and apart.
use Rattle.std.proofs.Common.{◌≡◌, ◌<◌, ◌≤◌, inl, inr, ℕ, List, [], ◌∷◌, ◌++◌, Option, Some, None, IfSome}
use Rattle.std.proofs.Common.{append_assoc, arith, length, subst, sym}
use Rattle.std.specs.List.{All, cons_option, filter_map}
use Rattle.std.proofs.lemmas.List.Elements.{All-cons, All-head, All-nil, All-tail, All-weaker}
use Rattle.std.proofs.lemmas.Option.{IfSome_then}
use Rattle.smap_pairs.specs.Known.{IsFrameUrlWithin, UrlsKnown}
use Rattle.smap_pairs.specs.LinePlaces.{frame_in, line_with, or_else, pair_place, place_of, places_in, start_of, whole_line}
use Rattle.smap_pairs.specs.Pairs.{AreInOrder, IsPairOf, pairs_of}
use Rattle.smap_pairs.specs.Seen.{seen_of}
use Rattle.smap_pairs.specs.Spans.{AreSpansInOrder}
use Rattle.smap_pairs.specs.VirtualLines.{lines_of_strings, virtual_lines}
use Rattle.smap_pairs.specs.declared.line_places.Span.{Span}
use Rattle.smap_pairs.specs.declared.pairs.Pair.{Pair}
use Rattle.smap_pairs.specs.declared.virtual_lines.VirtualLine.{VirtualLine}
use Rattle.smap_pairs.specs.Laws.Pairs.{are_in_order}
use Rattle.smap_pairs.specs.Laws.PairsWhole.{each_is_one}
use Rattle.smap_pairs.proofs.FramePlaceLaws.{IsBehind, a_frame, behind_any, behind_frame, behind_shared, frame_behind, placed_or}
use Rattle.smap_pairs.proofs.PairAtLaws.{at, found_here}
use Rattle.smap_pairs.proofs.PairPlaceLaws.{IsPlaceOf, placed_behind}
use Rattle.smap_pairs.proofs.PartedLaws.{IsFrom, IsLater, all_later, lines_of_two}

-- ---- the places of a line

-- a pair is the one of several that begins where it does
abbrev pub IsFound : List Pair → Pair → Type 0
IsFound pairs pair = at pair.start pairs ≡ Some pair

pub all_found : (bytes piece : ℕ) (before pairs : List Pair) → AreInOrder piece bytes (before ++ pairs) → All (IsFound (before ++ pairs)) pairs
all_found bytes piece before [] order = All-nil (IsFound (before ++ []))
all_found bytes piece before (pair ∷ pairs) order =
    let same : (before ++ pair ∷ []) ++ pairs ≡ before ++ pair ∷ pairs = append_assoc before (pair ∷ []) pairs in
    All-cons (IsFound (before ++ pair ∷ pairs)) pair pairs (found_here bytes pair pairs piece before order)
    (subst (λ l. All (IsFound l) pairs) same
    (all_found bytes piece (before ++ pair ∷ []) pairs (subst (AreInOrder piece bytes) (sym same) order)))

module _ (known : UrlsKnown) (text : List ℕ) (urls : (line : List ℕ) → IsFrameUrlWithin known line) where
  frame : Option VirtualLine → Option Span
  frame line = frame_in known text (seen_of text) (pairs_of text) line

  place : Pair → Option Span
  place pair = place_of known text (seen_of text) (pairs_of text) pair

  module _ (one two : Pair) (is : IsPairOf text one) (some : one.start < one.end) (later : IsLater one.end (length text) two) where
    order : one.start < two.start
    order = omega (arith, some, later.from, later.start)

    by_itself : (line : Option VirtualLine) (first : Option Span) → IsBehind first (pair_place known text (seen_of text) (start_of line) two) one.end
    by_itself line first =
        behind_any first (pair_place known text (seen_of text) (start_of line) two) one.end
        (IfSome_then (pair_place known text (seen_of text) (start_of line) two) (placed_behind known text (seen_of text) two later.start (start_of line))
        (λ span placed. omega (arith, placed.piece, later.from)))

    in_one : (here there : Option VirtualLine) (first second : Option Span) → here ≡ there → IsBehind first second one.end
        → IsBehind (or_else (frame here) one first) (or_else (frame there) two second) one.end
    in_one here there first second same rest =
        subst (λ line. IsBehind (or_else (frame line) one first) (or_else (frame there) two second) one.end) (sym same)
        (behind_shared one two (frame there) first second order rest)

    in_later : (line : Option VirtualLine) (first second : Option Span) → IfSome line (IsFrom one.end) → IsBehind first second one.end
        → IsBehind first (or_else (frame line) two second) one.end
    unfolding frame
    in_later line first second behind rest =
        behind_frame one two (pairs_of text) (frame line) first second
        (frame_behind known text (seen_of text) (pairs_of text) urls one.end line behind) rest

    place_behind : IsBehind (place one) (place two) one.end
    unfolding frame place
    place_behind =
        let lines = virtual_lines (seen_of text) in
        let strings = lines_of_strings (seen_of text) in
        let line = line_with lines one.start in
        let string = line_with strings one.start in
        let other = line_with lines two.start in
        let other_string = line_with strings two.start in
        let own = pair_place known text (seen_of text) (start_of line) one in
        let others = pair_place known text (seen_of text) (start_of other) two in
        let whole = frame (Some (whole_line (length text))) in
        behind_shared one two whole _ _ order (elim (lines_of_two text one two is some later) [
          | inl same ↦ in_one string other_string _ _ same.0 (in_one line other own others same.1 (by_itself other own))
          | inr apart ↦ elim apart.0 [
            | inl same ↦ in_one string other_string _ _ same
                (in_later other (or_else (frame line) one own) others apart.1 (by_itself other _))
            | inr behind ↦ in_later other_string _ _ behind (in_later other _ others apart.1 (by_itself other _))
          ]
        ])

  a_place : (pair : Pair) → at pair.start (pairs_of text) ≡ Some pair → pair.piece ≤ pair.start → IfSome (place pair) (IsPlaceOf pair)
  unfolding frame place
  a_place pair found least =
      let line = line_with (virtual_lines (seen_of text)) pair.start in
      let a = a_frame known text (seen_of text) (pairs_of text) urls in
      placed_or (pairs_of text) pair _ _ found (a (Some (whole_line (length text))))
      (placed_or (pairs_of text) pair _ _ found (a (line_with (lines_of_strings (seen_of text)) pair.start))
      (placed_or (pairs_of text) pair _ _ found (a line)
      (IfSome_then (pair_place known text (seen_of text) (start_of line) pair) (placed_behind known text (seen_of text) pair least (start_of line))
      (λ span placed. placed.place))))

  -- the place of a pair begins at a byte or behind it
  abbrev BeginsFrom : (from : ℕ) → Pair → Type 0
  BeginsFrom from pair = IfSome (place pair) (λ span. from ≤ span.start)

  one_more : (from size : ℕ) (pair : Pair) (pairs : List Pair) (own : Option Span) → pair.start < pair.end → pair.end ≤ size
      → IfSome own (λ span. from ≤ span.start) → IfSome own (IsPlaceOf pair) → All (λ other. IsBehind own (place other) pair.end) pairs
      → All (BeginsFrom from) pairs → ((from : ℕ) → All (BeginsFrom from) pairs → AreSpansInOrder from size (filter_map place pairs))
      → AreSpansInOrder from size (cons_option own (filter_map place pairs))
  one_more from size pair pairs None some within low is behind others rest = rest from others
  one_more from size pair pairs (Some span) some within low is behind others rest = (
    low,
    is.url,
    omega (arith, is.within, is.end, some),
    omega (arith, is.end, within),
    subst (λ n. AreSpansInOrder n size (filter_map place pairs)) (sym is.end) (rest pair.end behind),
  )

  in_order : (from piece : ℕ) (pairs : List Pair) → AreInOrder piece (length text) pairs → All (IsPairOf text) pairs
      → All (IsFound (pairs_of text)) pairs → All (BeginsFrom from) pairs → AreSpansInOrder from (length text) (filter_map place pairs)
  in_order from piece [] order are found begin = tt
  in_order from piece (pair ∷ pairs) order are found begin =
      one_more from (length text) pair pairs (place pair) order.2 order.3 (All-head (BeginsFrom from) pair pairs begin)
      (a_place pair (All-head (IsFound (pairs_of text)) pair pairs found) (omega (arith, order.0, order.1)))
      (All-weaker (IsLater pair.end (length text)) (λ other. IsBehind (place pair) (place other) pair.end)
      (λ other later. place_behind pair other (All-head (IsPairOf text) pair pairs are) order.2 later) pairs (all_later pair.end (length text) pairs order.4))
      (All-tail (BeginsFrom from) pair pairs begin)
      (λ from begin. in_order from pair.end pairs order.4 (All-tail (IsPairOf text) pair pairs are) (All-tail (IsFound (pairs_of text)) pair pairs found) begin)

  pub spans_in_order : AreSpansInOrder 0 (length text) (places_in known text (seen_of text))
  unfolding places_in place
  spans_in_order =
      in_order 0 0 (pairs_of text) (are_in_order text) (each_is_one text) (all_found (length text) 0 [] (pairs_of text) (are_in_order text))
      (All-from_zero (pairs_of text))
    where
      begins : (own : Option Span) → IfSome own (λ span. 0 ≤ span.start)
      begins None = tt
      begins (Some span) = omega arith

      All-from_zero : (pairs : List Pair) → All (BeginsFrom 0) pairs
      All-from_zero [] = All-nil (BeginsFrom 0)
      All-from_zero (pair ∷ pairs) = All-cons (BeginsFrom 0) pair pairs (begins (place pair)) (All-from_zero pairs)
