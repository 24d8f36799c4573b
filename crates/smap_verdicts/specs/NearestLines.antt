-- What is said of the mappings about a generated position, in sentences. Lines and columns print from 1.
use Rattle.std.specs.Prelude.{ℕ, ◌+◌, ◌||◌, ◌==◌, Bool, false, List, [], ◌∷◌, Option, None, Some, codes, if◌then◌else◌}
use Rattle.std.specs.Fmt.{decimal}
use Rattle.std.specs.Option.{option_map_or}
use Rattle.smap_mappings.specs.declared.mapping.Mapping.{Mapping}
use Rattle.smap_mappings.specs.declared.mapping.Origin.{Origin}
use Rattle.smap_index.specs.declared.answer.Neighbours.{Neighbours}
use Rattle.smap_explain.specs.Build.{place_of}
use Rattle.smap_verdicts.specs.Explanation.{at_text}
use Rattle.smap_verdicts.specs.Texts.{text_from}

-- a mapping is on this line
abbrev pub is_on : (line : ℕ) → Mapping → Bool
is_on line mapping = mapping.line == line

-- one of the nearest mappings is on the line
abbrev pub has_line : (line : ℕ) → Neighbours → Bool
has_line line about = option_map_or (is_on line) about.before false || option_map_or (is_on line) about.after false

-- that the line has no mapping
unfoldable pub line_text : (line : ℕ) → Neighbours → List ℕ
line_text line about = if has_line line about then [] else text_from (codes "  line " ∷ decimal (line + 1) ∷ codes " has no mapping\n" ∷ [])

abbrev pub origin_text : Option Origin → List ℕ
origin_text None = codes ", and has no original position"
origin_text (Some origin) = []

-- after these words, where a mapping stands; or these others, where there is none
unfoldable pub mapping_text : (words others : List ℕ) → Option Mapping → List ℕ
mapping_text words others None = others
mapping_text words others (Some mapping) = text_from (
    words ∷ codes " is at " ∷ at_text (place_of mapping) ∷ origin_text mapping.origin ∷ codes "\n" ∷ [])

-- the last mapping at a position or before it, and the first after it
unfoldable pub nearest_text : (line : ℕ) → Neighbours → List ℕ
nearest_text line about = text_from (
    line_text line about
    ∷ mapping_text (codes "  the last mapping at the position or before it") (codes "  no mapping stands at the position or before it\n") about.before
    ∷ mapping_text (codes "  the first mapping after it") (codes "  no mapping stands after it\n") about.after ∷ [])
