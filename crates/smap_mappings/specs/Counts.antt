-- How many segments a text has, and how many of its lines hold one (ECMA-426, Mappings structure).
use Rattle.std.specs.Prelude.{ℕ, ◌+◌, List, [], ◌∷◌, ◌++◌, if◌then◌else◌, length}
use Rattle.smap_mappings.specs.Segments.{segments_of}
use Rattle.smap_mappings.specs.Mappings.{Delta, deltas_of, has_segment_on}

-- how many segments the text has
abbrev pub segment_count : List ℕ → ℕ
segment_count text = length (segments_of text)

-- the lines of these segments on which none of the earlier ones stands: each counts at its first segment
abbrev pub new_lines : List Delta → List Delta → ℕ
new_lines earlier [] = 0
new_lines earlier (delta ∷ deltas) = (if has_segment_on delta.line earlier then 0 else 1) + new_lines (earlier ++ delta ∷ []) deltas

-- how many lines of the text hold a segment
unfoldable pub used_lines_of : List ℕ → ℕ
used_lines_of text = new_lines [] (deltas_of text)
