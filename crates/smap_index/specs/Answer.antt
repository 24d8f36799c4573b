-- What a look-up answers: of the mappings on the asked line, the last whose column is not after the asked one or, in the
-- other direction, the first whose column is not before it.
use Rattle.std.specs.Prelude.{ℕ, List, Option, Some, None, Bool, not, ◌&&◌, ◌==◌, nat_le, filter, take, slice_get}
use Rattle.std.specs.List.{find, last_or, prefix_len}
use Rattle.smap_mappings.specs.Range.{position_at, stands_before}
use Rattle.smap_mappings.specs.declared.mapping.Mapping.{Mapping}
use Rattle.smap_mappings.specs.declared.mapping.Origin.{Origin}
use Rattle.smap_index.specs.declared.answer.Answer.{Answer}
use Rattle.smap_index.specs.declared.answer.Answer.TheVariants.{Nothing, Unmapped, Found}
use Rattle.smap_index.specs.declared.answer.Neighbours.{Neighbours}

-- the mapping stands on this line, at this column or before it
abbrev pub is_on_line_at_or_before : ℕ → ℕ → Mapping → Bool
is_on_line_at_or_before line column mapping = mapping.line == line && nat_le mapping.column column

-- a column with an origin, or without one
abbrev pub answer_with : ℕ → Option Origin → Answer
answer_with column None = Unmapped column
answer_with column (Some origin) = Found column origin

-- what a mapping answers
abbrev pub answer_of : Mapping → Answer
answer_of mapping = answer_with mapping.column mapping.origin

-- what the mapping that was found answers: nothing, where there is none
abbrev pub answer_of_last : Option Mapping → Answer
answer_of_last None = Nothing
answer_of_last (Some mapping) = answer_of mapping

-- of the mappings on the line whose column is not after the asked one, the last answers
unfoldable pub answer_at_or_before : List Mapping → ℕ → ℕ → Answer
answer_at_or_before list line column = answer_of_last (last_or None (filter (is_on_line_at_or_before line column) list))

-- ---- the other direction

-- the mapping stands on this line, at this column or after it
abbrev pub is_on_line_at_or_after : ℕ → ℕ → Mapping → Bool
is_on_line_at_or_after line column mapping = mapping.line == line && nat_le column mapping.column

-- of the mappings on the line whose column is not before the asked one, the first answers
unfoldable pub answer_at_or_after : List Mapping → ℕ → ℕ → Answer
answer_at_or_after list line column = answer_of_last (find (is_on_line_at_or_after line column) list)

-- ---- on any line

-- of mappings in order, the last of those in front that do not stand after the position, and the first after them
unfoldable pub neighbours : List Mapping → (line column : ℕ) → Neighbours
neighbours list line column =
    let n = prefix_len (λ mapping. not (stands_before (position_at line column) mapping)) list in
    record { before = last_or None (take n list); after = slice_get list n }
