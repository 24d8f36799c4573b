-- The virtual lines of a line and its marks cover it in turn; and a line has the numbers of a pair whole.
use Rattle.std.proofs.Common.{◌≡◌, ◌+◌, ◌-◌, ℕ, List, ap, arith, drop, get_or, length, length-drop, subst, sym, ◌∙◌}
use Rattle.std.specs.Prelude.{IsSomeAnd, slice_get}
use Rattle.std.specs.List.{All}
use Rattle.std.proofs.lemmas.List.{get_or-drop}
use Rattle.smap_pairs.specs.declared.pairs.Pair.{Pair}
use Rattle.smap_pairs.specs.Apart.{AreApart, HasWhole, IsClearOf, in_turn}
use Rattle.smap_pairs.specs.Marks.{marks_of}
use Rattle.smap_pairs.specs.Pairs.{IsPairOf}
use Rattle.smap_pairs.specs.Seen.{seen_of}
use Rattle.smap_pairs.specs.VirtualLines.{line_of_byte, lines_of_strings, marks_of_strings, virtual_lines}
use Rattle.smap_pairs.specs.Laws.PairBytes.{byte_of_pair, pair_colon}
use Rattle.smap_pairs.specs.Laws.Pairs.{pair_size}
use Rattle.smap_pairs.proofs.ApartLaws.{AreNumbers, marks_apart, marks_clear}
use Rattle.smap_pairs.proofs.SeenBytesLaws.{length_kept}
use Rattle.smap_pairs.proofs.VirtualLineLaws.{all_among, apart_among, has_whole, in_turn_from, strings_among}

module _ (line : List ℕ) where
  pub marks_in_line : AreApart 0 (length line) (marks_of (seen_of line))
  marks_in_line = subst (λ n. AreApart 0 n (marks_of (seen_of line))) (length_kept line) (marks_apart line)

  pub strings_in_line : AreApart 0 (length line) (marks_of_strings 0 (marks_of (seen_of line)))
  strings_in_line = apart_among 0 (length line) _ (marks_of (seen_of line)) (strings_among 0 (marks_of (seen_of line))) marks_in_line

  pub virtual_lines_cover : in_turn line (virtual_lines (seen_of line)) (marks_of (seen_of line)) ≡ line
  unfolding virtual_lines
  virtual_lines_cover = rw (length_kept line) (in_turn_from line 0 0 (marks_of (seen_of line)) marks_in_line)

  pub strings_cover : in_turn line (lines_of_strings (seen_of line)) (marks_of_strings 0 (marks_of (seen_of line))) ≡ line
  unfolding lines_of_strings
  strings_cover = rw (length_kept line) (in_turn_from line 0 0 (marks_of_strings 0 (marks_of (seen_of line))) strings_in_line)

-- the numbers of a pair
pair_numbers_are : (line : List ℕ) (pair : Pair) → IsPairOf line pair → AreNumbers line pair.start pair.end
pair_numbers_are line pair is =
    let text = drop pair.start line in
    let size = pair_size text pair.line pair.column (pair.end - pair.start) is.numbers in
    let here : pair.start + 0 ≡ pair.start = omega arith in (
      omega (arith, size.some),
      omega (arith, size.some, size.within, length-drop pair.start line),
      ap (λ k. get_or line k 0) (sym here) ∙ sym (get_or-drop pair.start line 0 0)
          ∙ pair_colon text pair.line pair.column (pair.end - pair.start) is.numbers,
      λ k from to. byte_of_pair line pair k is from to,
    )

module _ (line : List ℕ) (pair : Pair) (is : IsPairOf line pair) where
  pub clear_of_pair : All (IsClearOf pair.start pair.end) (marks_of (seen_of line))
  clear_of_pair = marks_clear line pair.start pair.end (pair_numbers_are line pair is)

  pub in_one_virtual_line : let lines = virtual_lines (seen_of line) in
      IsSomeAnd (slice_get lines (line_of_byte lines pair.start)) (HasWhole pair.start pair.end)
  unfolding virtual_lines
  in_one_virtual_line =
      let numbers = pair_numbers_are line pair is in
      rw (length_kept line)
      (has_whole (length line) 0 0 pair.start pair.end (marks_of (seen_of line)) (marks_in_line line) clear_of_pair (omega arith) numbers.0 numbers.1)

  pub in_one_string : let lines = lines_of_strings (seen_of line) in
      IsSomeAnd (slice_get lines (line_of_byte lines pair.start)) (HasWhole pair.start pair.end)
  unfolding lines_of_strings
  in_one_string =
      let numbers = pair_numbers_are line pair is in
      let marks = marks_of_strings 0 (marks_of (seen_of line)) in
      rw (length_kept line)
      (has_whole (length line) 0 0 pair.start pair.end marks (strings_in_line line)
      (all_among (IsClearOf pair.start pair.end) marks (marks_of (seen_of line)) (strings_among 0 (marks_of (seen_of line))) clear_of_pair)
      (omega arith) numbers.0 numbers.1)
