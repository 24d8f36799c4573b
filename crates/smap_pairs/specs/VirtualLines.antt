-- The virtual lines of a line: what stands between its marks. In a text of JSON each is a string, or a line in a string.
use Rattle.std.specs.Prelude.{ℕ, ◌+◌, ◌*◌, ◌||◌, Bool, not, max, nat_le, List, [], ◌∷◌, length, if◌then◌else◌}
use Rattle.std.specs.List.{prefix_len}
use Rattle.smap_pairs.specs.declared.marks.Mark.{Mark}
use Rattle.smap_pairs.specs.declared.seen.SeenByte.{SeenByte}
use Rattle.smap_pairs.specs.declared.virtual_lines.VirtualLine.{VirtualLine}
use Rattle.smap_pairs.specs.Marks.{marks_of}

-- how many backslashes mean one behind a mark. A string that `\"` begins stands in a string, where each backslash is two: in
-- it they are four. A line's end is written with half as many as mean one.
abbrev pub unit_behind : Mark → ℕ
unit_behind mark = if mark.is_line_end then max 2 (2 * mark.backslashes) else 2 * mark.backslashes + 2

-- what stands between these marks, from the byte `begin` on to the end of a line of so many bytes
abbrev pub lines_between : (size begin unit : ℕ) → List Mark → List VirtualLine
lines_between size begin unit [] = record { start = begin; end = size; unit = unit } ∷ []
lines_between size begin unit (mark ∷ marks) =
    record { start = begin; end = mark.start; unit = unit } ∷ lines_between size mark.end (unit_behind mark) marks

-- the virtual lines of a line, in their order
unfoldable pub virtual_lines : List SeenByte → List VirtualLine
virtual_lines line = lines_between (length line) 0 0 (marks_of line)

-- ---- strings in which a backslash is two

-- a mark ends a line in which so many backslashes mean one: where two do, `\n` is a line's end, and `\\n` a backslash and an
-- n
abbrev pub ends_line_of_string : (unit : ℕ) → Mark → Bool
ends_line_of_string unit mark = not mark.is_line_end || nat_le (2 * mark.backslashes) (max unit 2)

abbrev pub with_mark : Bool → Mark → List Mark → List Mark
with_mark is_one mark marks = if is_one then mark ∷ marks else marks

-- those of the marks that end such a line
abbrev pub marks_of_strings : (unit : ℕ) → List Mark → List Mark
marks_of_strings unit [] = []
marks_of_strings unit (mark ∷ marks) =
    with_mark (ends_line_of_string unit mark) mark (marks_of_strings (if ends_line_of_string unit mark then unit_behind mark else unit) marks)

-- what stands between these alone
unfoldable pub lines_of_strings : List SeenByte → List VirtualLine
lines_of_strings line = lines_between (length line) 0 0 (marks_of_strings 0 (marks_of line))

-- ---- which line has a byte

-- how many of the lines end before a byte, or with the byte before it. The next one has the byte, unless it is a mark's
abbrev pub line_of_byte : (lines : List VirtualLine) → (place : ℕ) → ℕ
line_of_byte lines place = prefix_len (λ line. nat_le line.end place) lines
