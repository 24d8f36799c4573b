-- What is seen of a line: its virtual lines stand within it, and which place a pair has.
use Rattle.std.proofs.Common.{◌≡◌, ◌≤◌, ◌++◌, ◌∷◌, [], ℕ, List, Option, Some, None, ap, append_assoc, append-nil, arith, length, subst, sym, ◌∙◌}
use Rattle.std.specs.List.{All, cons_option, filter_map, slice_get}
use Rattle.std.proofs.lemmas.List.Elements.{All-cons, All-nil}
use Rattle.smap_pairs.specs.Apart.{AreApart}
use Rattle.smap_pairs.specs.LinePlaces.{IsLineWithin, frame_in, line_with, or_else, pair_place, place_of, start_of, whole_line}
use Rattle.smap_pairs.specs.Known.{UrlsKnown}
use Rattle.smap_pairs.specs.Pairs.{AreInOrder}
use Rattle.smap_pairs.specs.Marks.{marks_of}
use Rattle.smap_pairs.specs.Seen.{seen_of}
use Rattle.smap_pairs.specs.VirtualLines.{line_of_byte, lines_between, lines_of_strings, marks_of_strings, unit_behind, virtual_lines}
use Rattle.smap_pairs.specs.declared.line_places.Span.{Span}
use Rattle.smap_pairs.specs.declared.marks.Mark.{Mark}
use Rattle.smap_pairs.specs.declared.pairs.Pair.{Pair}
use Rattle.smap_pairs.specs.declared.seen.SeenByte.{SeenByte}
use Rattle.smap_pairs.specs.declared.virtual_lines.VirtualLine.{VirtualLine}
use Rattle.smap_pairs.proofs.CoverLaws.{marks_in_line, strings_in_line}
use Rattle.smap_pairs.proofs.SeenBytesLaws.{length_kept}
use Rattle.smap_pairs.proofs.VirtualLineLaws.{apart_within, later_line}

lines_within : (size begin unit : ℕ) (marks : List Mark) → AreApart begin size marks → All (IsLineWithin size) (lines_between size begin unit marks)
lines_within size begin unit [] apart = All-cons (IsLineWithin size) _ [] (apart, omega arith) (All-nil (IsLineWithin size))
lines_within size begin unit (mark ∷ marks) apart =
    let rest : mark.end ≤ size = apart_within mark.end size marks apart.2 in
    All-cons (IsLineWithin size) _ _ (apart.0, omega (arith, apart.1, rest)) (lines_within size mark.end (unit_behind mark) marks apart.2)

pub virtual_lines_within : (line : List ℕ) → All (IsLineWithin (length line)) (virtual_lines (seen_of line))
unfolding virtual_lines
virtual_lines_within line =
    subst (λ n. All (IsLineWithin (length line)) (lines_between n 0 0 (marks_of (seen_of line)))) (sym (length_kept line))
    (lines_within (length line) 0 0 (marks_of (seen_of line)) (marks_in_line line))

pub strings_within : (line : List ℕ) → All (IsLineWithin (length line)) (lines_of_strings (seen_of line))
unfolding lines_of_strings
strings_within line =
    subst (λ n. All (IsLineWithin (length line)) (lines_between n 0 0 (marks_of_strings 0 (marks_of (seen_of line))))) (sym (length_kept line))
    (lines_within (length line) 0 0 (marks_of_strings 0 (marks_of (seen_of line))) (strings_in_line line))

-- ---- the place of a pair

module _ (known : UrlsKnown) (text : List ℕ) (seen : List SeenByte) (pairs : List Pair) (pair : Pair) (strings lines : List VirtualLine) where
  pub placed : strings ≡ lines_of_strings seen → lines ≡ virtual_lines seen → (in_line in_string in_virtual place : Option Span) → (string line : ℕ)
      → in_line ≡ frame_in known text seen pairs (Some (whole_line (length text)))
      → string ≡ line_of_byte strings pair.start → in_string ≡ frame_in known text seen pairs (slice_get strings string)
      → line ≡ line_of_byte lines pair.start → in_virtual ≡ frame_in known text seen pairs (slice_get lines line)
      → place ≡ or_else in_line pair (or_else in_string pair (or_else in_virtual pair (pair_place known text seen (start_of (slice_get lines line)) pair)))
      → place_of known text seen pairs pair ≡ place
  placed are ones in_line in_string in_virtual place string line whole string_is string_frame line_is line_frame is =
      let string_at : slice_get strings string ≡ line_with (lines_of_strings seen) pair.start =
      ap (slice_get strings) string_is ∙ ap (λ l. line_with l pair.start) are in
      let line_at : slice_get lines line ≡ line_with (virtual_lines seen) pair.start =
      ap (slice_get lines) line_is ∙ ap (λ l. line_with l pair.start) ones in
      let one = string_frame ∙ ap (frame_in known text seen pairs) string_at in
      let two = line_frame ∙ ap (frame_in known text seen pairs) line_at in
      let three = ap (λ virtual. pair_place known text seen (start_of virtual) pair) line_at in
      sym (is ∙ (ap (λ o. or_else o pair (or_else in_string pair (or_else in_virtual pair (pair_place known text seen (start_of (slice_get lines line)) pair)))) whole
      ∙ ap (λ o. or_else (frame_in known text seen pairs (Some (whole_line (length text)))) pair o)
      (ap (λ o. or_else o pair (or_else in_virtual pair (pair_place known text seen (start_of (slice_get lines line)) pair))) one
      ∙ ap (λ o. or_else (frame_in known text seen pairs (line_with (lines_of_strings seen) pair.start)) pair o)
      (ap (λ o. or_else o pair (pair_place known text seen (start_of (slice_get lines line)) pair)) two
      ∙ ap (λ o. or_else (frame_in known text seen pairs (line_with (virtual_lines seen) pair.start)) pair o) three))))

-- ---- one more pair

module _ {X Y : Type 0} (gives : X → Option Y) (all : List X) (before : List Y) (one : X) (later rest : List X) where
  pub with_none : filter_map gives all ≡ before ++ filter_map gives rest → rest ≡ one ∷ later → gives one ≡ None
      → filter_map gives all ≡ before ++ filter_map gives later
  with_none so_far is none =
      so_far ∙ (ap (λ l. before ++ filter_map gives l) is ∙ ap (λ o. before ++ cons_option o (filter_map gives later)) none)

  pub with_one : (found : Y) → filter_map gives all ≡ before ++ filter_map gives rest → rest ≡ one ∷ later → gives one ≡ Some found
      → filter_map gives all ≡ (before ++ found ∷ []) ++ filter_map gives later
  with_one found so_far is some =
      so_far ∙ (ap (λ l. before ++ filter_map gives l) is ∙ (ap (λ o. before ++ cons_option o (filter_map gives later)) some
      ∙ sym (append_assoc before (found ∷ []) (filter_map gives later))))

-- ---- what is left

abbrev pub Left : (size : ℕ) → (strings lines : List VirtualLine) → (rest : List Pair) → (string line : ℕ) → Type 0
Left size strings lines rest string line = (piece : ℕ) × AreInOrder piece size rest
    × ((byte : ℕ) → piece ≤ byte → string ≤ line_of_byte strings byte) × ((byte : ℕ) → piece ≤ byte → line ≤ line_of_byte lines byte)

pub left_behind : (size : ℕ) (strings lines : List VirtualLine) (rest : List Pair) (old_string old_line : ℕ) (pair : Pair) (later : List Pair) (string line : ℕ)
    → Left size strings lines rest old_string old_line → rest ≡ pair ∷ later → string ≡ line_of_byte strings pair.start → line ≡ line_of_byte lines pair.start
    → Left size strings lines later string line
left_behind size strings lines rest old_string old_line pair later string line left is string_is line_is =
    let order = subst (λ l. AreInOrder left.0 size l) is left.1 in (
      pair.end,
      order.4,
      λ byte least. omega (arith, string_is, later_line strings pair.start byte (omega (arith, order.2, least))),
      λ byte least. omega (arith, line_is, later_line lines pair.start byte (omega (arith, order.2, least))),
    )

pub none_left : {X Y : Type 0} (gives : X → Option Y) (all : List X) (before : List Y) (rest : List X) → filter_map gives all ≡ before ++ filter_map gives rest
    → length rest ≡ 0 → before ≡ filter_map gives all
none_left gives all before [] so_far none = sym (so_far ∙ append-nil before)
none_left gives all before (one ∷ rest) so_far none = absurd (omega (arith, none))
