-- How many marks, lines and pairs a line has at most.
use Rattle.std.proofs.Common.{◌≡◌, ◌+◌, ◌≤◌, ℕ, suc, Bool, true, false, cond, List, [], ◌∷◌, ◌++◌, arith, length}
use Rattle.smap_pairs.specs.Marks.{ends_mark, mark_at, marks_from, marks_of}
use Rattle.smap_pairs.specs.Pairs.{AreInOrder, pairs_of}
use Rattle.smap_pairs.specs.VirtualLines.{ends_line_of_string, lines_between, lines_of_strings, marks_of_strings, unit_behind, virtual_lines, with_mark}
use Rattle.smap_pairs.specs.Laws.Pairs.{are_in_order}
use Rattle.smap_pairs.specs.declared.marks.Mark.{Mark}
use Rattle.smap_pairs.specs.declared.pairs.Pair.{Pair}
use Rattle.smap_pairs.specs.declared.seen.SeenByte.{SeenByte}

few_from : (line : List SeenByte) (at : ℕ) (rest : List SeenByte) → length (marks_from line at rest) ≤ length rest
few_from line at [] = omega arith
few_from line at (seen ∷ rest) = go (ends_mark seen) (few_from line (suc at) rest)
  where
    go : (b : Bool) → length (marks_from line (suc at) rest) ≤ length rest
        → length (cond b (mark_at line at seen ∷ []) [] ++ marks_from line (suc at) rest) ≤ suc (length rest)
    go true few = omega (arith, few)
    go false few = omega (arith, few)

-- at most one mark a byte
pub marks_few : (line : List SeenByte) → length (marks_of line) ≤ length line
unfolding marks_of
marks_few line = few_from line 0 line

strings_few_from : (unit : ℕ) (marks : List Mark) → length (marks_of_strings unit marks) ≤ length marks
strings_few_from unit [] = omega arith
strings_few_from unit (mark ∷ marks) =
    go (ends_line_of_string unit mark) (marks_of_strings (cond (ends_line_of_string unit mark) (unit_behind mark) unit) marks)
    (strings_few_from (cond (ends_line_of_string unit mark) (unit_behind mark) unit) marks)
  where
    go : (is_one : Bool) (more : List Mark) → length more ≤ length marks → length (with_mark is_one mark more) ≤ suc (length marks)
    go true more few = omega (arith, few)
    go false more few = omega (arith, few)

lines_counted : (size begin unit : ℕ) (marks : List Mark) → length (lines_between size begin unit marks) ≡ suc (length marks)
lines_counted size begin unit [] = omega arith
lines_counted size begin unit (mark ∷ marks) = omega (arith, lines_counted size mark.end (unit_behind mark) marks)

-- one line more than marks
pub virtual_lines_few : (line : List SeenByte) → length (virtual_lines line) ≤ length line + 1
unfolding virtual_lines
virtual_lines_few line = omega (arith, lines_counted (length line) 0 0 (marks_of line), marks_few line)

pub strings_few : (line : List SeenByte) → length (lines_of_strings line) ≤ length line + 1
unfolding lines_of_strings
strings_few line =
    omega (arith, lines_counted (length line) 0 0 (marks_of_strings 0 (marks_of line)), strings_few_from 0 (marks_of line), marks_few line)

pairs_few_from : (piece bytes : ℕ) (pairs : List Pair) → piece ≤ bytes → AreInOrder piece bytes pairs → length pairs + piece ≤ bytes
pairs_few_from piece bytes [] within order = omega (arith, within)
pairs_few_from piece bytes (pair ∷ pairs) within order =
    omega (arith, pairs_few_from pair.end bytes pairs order.3 order.4, order.1, order.2)

-- at most one pair a byte
pub pairs_few : (line : List ℕ) → length (pairs_of line) ≤ length line
pairs_few line = omega (arith, pairs_few_from 0 (length line) (pairs_of line) (omega arith) (are_in_order line))

pub ruleset few = (marks_few, virtual_lines_few, strings_few, pairs_few)
