-- What callers see of an index of originals: for each source the generated places of its mappings, by their originals.
use Rattle.std.specs.Prelude.{ℕ, ◌+◌, ◌*◌, List, [], Option, None, Some, Bool, false, ◌==◌, filter, map, slice_index_or}
use Rattle.std.specs.Ordering.{nat_cmp}
use Rattle.std.specs.List.Sorted.{IsNonDecreasingBy, IsPermutation, IsStableByKey}
use Rattle.smap_mappings.specs.declared.mapping.Mapping.{Mapping}
use Rattle.smap_mappings.specs.declared.mapping.Origin.{Origin}
use Rattle.smap_originals.specs.Generated.{column_of}
use Rattle.smap_originals.specs.declared.place.GeneratedPlace.{GeneratedPlace}

-- the line of an original, and 0 where there is none
abbrev pub line_of : Option Origin → ℕ
line_of None = 0
line_of (Some origin) = origin.line

-- where a mapping stands, and its original
abbrev pub place_of : Mapping → GeneratedPlace
place_of mapping = record {
  line = mapping.line;
  column = mapping.column;
  original_line = line_of mapping.origin;
  original_column = column_of mapping.origin;
}

-- the original is of this source
abbrev pub is_of : (source : ℕ) → Option Origin → Bool
is_of source None = false
is_of source (Some origin) = origin.source == source

-- the mappings whose original is of this source
abbrev pub from_source : (source : ℕ) → List Mapping → List Mapping
from_source source list = filter (λ mapping. is_of source mapping.origin) list

-- a number that rises with the line and, on one line, with the column, which is below 2 ^ 32
abbrev pub order_of : (line column : ℕ) → ℕ
order_of line column = line * 4294967296 + column

abbrev pub original_order : GeneratedPlace → ℕ
original_order place = order_of place.original_line place.original_column

-- these are the same places by their originals, and those of one original as they stood
pub record IsByOriginal (places sorted : List GeneratedPlace) : Type 0 where
  pub same : IsPermutation places sorted
  pub ordered : IsNonDecreasingBy original_order sorted
  pub stable : IsStableByKey original_order nat_cmp places sorted

-- the places of each source, one source after another; a source past the last has none
abbrev pub of_source : List (List GeneratedPlace) → (source : ℕ) → List GeneratedPlace
of_source originals source = slice_index_or originals source []

-- of these places those whose original is on this line, in their order
abbrev pub on_line : (line : ℕ) → List GeneratedPlace → List GeneratedPlace
on_line line places = filter (λ place. place.original_line == line) places

-- they are those of the mappings of the list whose original is of the source
abbrev pub AreOriginalsOf : List Mapping → List (List GeneratedPlace) → Type 0
AreOriginalsOf list originals = (source : ℕ) → IsByOriginal (map place_of (from_source source list)) (of_source originals source)
