-- Where the checkpoints of each generated line begin in the table, as the number of the first of them. Lines count from 0.
use Rattle.std.specs.Prelude.{◌≡◌, ℕ, ◌+◌, ◌-◌, ◌*◌, List, None, nat_lt, nat_le, if◌then◌else◌, min, length, map, slice_get}
use Rattle.std.specs.List.{last_or, prefix_len, range_with_len}
use Rattle.std.specs.Option.{option_map_or}
use Rattle.smap_index.specs.declared.part.Part.{Part}
use Rattle.smap_index.specs.Marks.{Mark, marks}
use Rattle.smap_index.specs.Parts.{placed}

-- the line of the segment that a mark is of
abbrev pub line_of_mark : List Part → Mark → ℕ
line_of_mark parts mark =
    option_map_or (λ part. option_map_or (λ mapping. mapping.line) (slice_get (placed part) mark.segment) 0) (slice_get parts mark.part) 0

-- the lines of all marks, in order
abbrev pub marked_lines : List Part → ℕ → List ℕ
marked_lines parts interval = map (line_of_mark parts) (marks parts interval)

-- how many marks stand on the lines before this one: there those of the line begin
abbrev pub start_of_line : List ℕ → ℕ → ℕ
start_of_line lines line = prefix_len (λ marked. nat_lt marked line) lines

-- how many stand on the line
abbrev pub marks_on_line : List ℕ → ℕ → ℕ
marks_on_line lines line = start_of_line lines (line + 1) - start_of_line lines line

-- where those of the first lines begin, of so many
abbrev pub first_starts : List ℕ → ℕ → List ℕ
first_starts lines count = map (start_of_line lines) (range_with_len 0 count)

-- these are the starts of the first lines
abbrev pub AreLineStarts : List ℕ → List ℕ → Type 0
AreLineStarts lines starts = starts ≡ first_starts lines (length starts)

-- how many lines have a start: those up to the last mark's, but at most four for each mark; and none, where 32 bits do not
-- count the marks
abbrev pub lines_started : List ℕ → ℕ
lines_started lines = if nat_le (length lines) 4294967295 then min (option_map_or (λ line. line + 1) (last_or None lines) 0) (4 * length lines) else 0

-- the starts that an index with these marks gives
abbrev pub line_starts : List ℕ → List ℕ
line_starts lines = first_starts lines (lines_started lines)
