-- Which texts are accepted, for a number of sources and a number of names (ECMA-426, Mappings structure). Three
-- rules are this project's own: the column may not fall on a line, no running value may pass 2147483647, and one
-- faulty segment refuses the whole text.
use Rattle.std.specs.Prelude.{ℕ, List, [], ◌∷◌, ◌++◌, Bool, true, IsTrue, ◌&&◌, ◌||◌, not, ℤ, pos, int_lt}
use Rattle.smap_mappings.specs.Limits.{limit}
use Rattle.smap_mappings.specs.Segment.{has_known_length, has_origin, has_name}
use Rattle.smap_mappings.specs.Mappings.{Delta, RunningValues, deltas_of, has_segment_on, difference, values_on}

-- ---- the range of a running value, from 0 to the limit

-- the value is negative
abbrev pub is_below_zero : ℤ → Bool
is_below_zero value = int_lt value (pos 0)

-- the value is past the limit
abbrev pub is_past_limit : ℤ → Bool
is_past_limit value = int_lt (pos limit) value

-- the value is from 0 to the limit
abbrev pub is_in_range : ℤ → Bool
is_in_range value = not (is_below_zero value) && not (is_past_limit value)

-- each of the five values is from 0 to the limit
abbrev pub are_in_range : RunningValues → Bool
are_in_range values =
    is_in_range values.column && is_in_range values.source && is_in_range values.original_line && is_in_range values.original_column && is_in_range values.name

-- ---- segment after segment

-- whether a segment of this line and these fields may leave these values: its source and its name are among those
-- that there are, and its column doesn't fall where an earlier segment stands on its line
abbrev pub is_allowed : ℕ → ℕ → Bool → Delta → RunningValues → Bool
is_allowed sources names has_earlier delta values =
    has_known_length delta.fields
    && are_in_range values
    && (not (has_origin delta.fields) || int_lt values.source (pos sources))
    && (not (has_name delta.fields) || int_lt values.name (pos names))
    && (not has_earlier || not (is_below_zero (difference 0 delta)))

-- whether a segment may stand after these: it has one, four or five fields, and each running value after it is in range
unfoldable pub is_accepted_after : ℕ → ℕ → List Delta → Delta → Bool
is_accepted_after sources names before delta =
    is_allowed sources names (has_segment_on delta.line before) delta (values_on delta.line (before ++ delta ∷ []))

-- each of these segments may stand where it does, after those before
abbrev pub are_accepted_after : ℕ → ℕ → List Delta → List Delta → Bool
are_accepted_after sources names before [] = true
are_accepted_after sources names before (delta ∷ deltas) =
    is_accepted_after sources names before delta && are_accepted_after sources names (before ++ delta ∷ []) deltas

-- each segment of the text may stand where it does
unfoldable pub is_accepted : List ℕ → ℕ → ℕ → Bool
is_accepted text sources names = are_accepted_after sources names [] (deltas_of text)

-- the text is accepted for this number of sources and of names
abbrev pub IsAccepted : List ℕ → ℕ → ℕ → Type 0
IsAccepted text sources names = IsTrue (is_accepted text sources names)
