-- From original to generated, which ECMA-426 leaves open: the mappings of a list whose original is on a line of a source,
-- and of these the ones at the original column that is next to an asked one. All counts from 0, columns in UTF-16 code
-- units.
use Rattle.std.specs.Prelude.{ℕ, List, Option, None, Some, Bool, false, not, ◌&&◌, ◌==◌, nat_le, nat_lt, filter}
use Rattle.std.specs.List.{list_any}
use Rattle.smap_mappings.specs.declared.mapping.Mapping.{Mapping}
use Rattle.smap_mappings.specs.declared.mapping.Origin.{Origin}
use Rattle.smap_originals.specs.declared.asked.OriginalDirection.{OriginalDirection}
use Rattle.smap_originals.specs.declared.asked.OriginalDirection.TheVariants.{AtOrBefore, AtOrAfter}

-- ---- on a line

-- the original is on this line of this source
abbrev pub is_origin_on : (source line : ℕ) → Option Origin → Bool
is_origin_on source line None = false
is_origin_on source line (Some origin) = origin.source == source && origin.line == line

-- the mappings of the list, in its order, whose original is on this line of this source
abbrev pub generated_for : List Mapping → (source line : ℕ) → List Mapping
generated_for list source line = filter (λ mapping. is_origin_on source line mapping.origin) list

-- ---- next to a column

-- the column of an original, and 0 where there is none
abbrev pub column_of : Option Origin → ℕ
column_of None = 0
column_of (Some origin) = origin.column

-- an original column is on the asked side of a column: it is not after it, or not before it
abbrev pub is_on_side : OriginalDirection → (asked column : ℕ) → Bool
is_on_side AtOrBefore asked column = nat_le column asked
is_on_side AtOrAfter asked column = nat_le asked column

abbrev pub on_side : OriginalDirection → (asked : ℕ) → List Mapping → List Mapping
on_side direction asked mappings = filter (λ mapping. is_on_side direction asked (column_of mapping.origin)) mappings

-- of two original columns on that side the first is nearer to the asked one: it is the greater, or the less
abbrev pub is_nearer : OriginalDirection → (a b : ℕ) → Bool
is_nearer AtOrBefore a b = nat_lt b a
is_nearer AtOrAfter a b = nat_lt a b

-- one of these mappings has an original column that is nearer than this one
abbrev pub has_nearer : OriginalDirection → List Mapping → (column : ℕ) → Bool
has_nearer direction mappings column = list_any (λ other. is_nearer direction (column_of other.origin) column) mappings

-- those with the nearest original column
abbrev pub nearest : OriginalDirection → List Mapping → List Mapping
nearest direction mappings = filter (λ mapping. not (has_nearer direction mappings (column_of mapping.origin))) mappings

-- of the mappings on the line, those with the original column that is next to the asked one in this direction
unfoldable pub generated_next : OriginalDirection → List Mapping → (source line column : ℕ) → List Mapping
generated_next direction list source line column = nearest direction (on_side direction column (generated_for list source line))
