-- What the segments of a text say (ECMA-426, Mappings structure): each field is a difference from the field's
-- value before. The generated column starts from 0 on each line, the other four run over the whole text from 0.
use Rattle.std.specs.Prelude.{ℕ, List, [], ◌∷◌, ◌++◌, Bool, Option, Some, None, ◌==◌, ◌||◌, if◌then◌else◌, map, filter, unwrap_or, slice_get, ℤ, pos}
use Rattle.std.specs.Prelude.{negsuc, ◌+ℤ◌}
use Rattle.std.specs.List.{list_any}
use Rattle.smap_mappings.specs.Segment.{fields_of, has_origin, has_name}
use Rattle.smap_mappings.specs.Segments.{TextSegment, segments_of}
use Rattle.smap_mappings.specs.declared.mapping.Mapping.{Mapping}
use Rattle.smap_mappings.specs.declared.mapping.Origin.{Origin}

-- a segment's generated line and its fields, which are differences
pub record Delta : Type 0 where
  pub line : ℕ
  pub fields : List ℤ

-- a segment whose bytes spell no numbers has no fields
abbrev pub delta_of : TextSegment → Delta
delta_of segment = record { line = segment.line; fields = unwrap_or (fields_of segment.bytes) [] }

-- the lines and fields of a text's segments, in order
unfoldable pub deltas_of : List ℕ → List Delta
deltas_of text = map delta_of (segments_of text)

-- one of these segments stands on this line
abbrev pub has_segment_on : ℕ → List Delta → Bool
has_segment_on line deltas = list_any (λ delta. delta.line == line) deltas

-- field i, from 0, and 0 where the segment has none; fields after the first count only where they give an origin
abbrev pub difference : ℕ → Delta → ℤ
difference i delta = if i == 0 || has_origin delta.fields then unwrap_or (slice_get delta.fields i) (pos 0) else pos 0

-- the sum of field i over these segments
abbrev pub total : ℕ → List Delta → ℤ
total i [] = pos 0
total i (delta ∷ deltas) = difference i delta +ℤ total i deltas

-- the value of each field so far
pub record RunningValues : Type 0 where
  pub column : ℤ
  pub source : ℤ
  pub original_line : ℤ
  pub original_column : ℤ
  pub name : ℤ

-- the running values after these segments, the generated column being that on this line
unfoldable pub values_on : ℕ → List Delta → RunningValues
values_on line deltas = record {
  column = total 0 (filter (λ delta. delta.line == line) deltas);
  source = total 1 deltas;
  original_line = total 2 deltas;
  original_column = total 3 deltas;
  name = total 4 deltas;
}

-- a running value as an index, a line or a column; in an accepted text none is below 0
abbrev pub natural : ℤ → ℕ
natural (pos n) = n
natural (negsuc n) = 0

-- the name index of a segment with these fields, if it has one
abbrev pub name_in : List ℤ → RunningValues → Option ℕ
name_in fields values = if has_name fields then Some (natural values.name) else None

-- a segment of one field has no origin, one of four has no name
abbrev pub origin_in : List ℤ → RunningValues → Option Origin
origin_in fields values =
    if has_origin fields
    then Some (record {
      source = natural values.source;
      line = natural values.original_line;
      column = natural values.original_column;
      name = name_in fields values;
    })
    else None

-- the mapping of a segment that stands after these
unfoldable pub mapping_after : List Delta → Delta → Mapping
mapping_after before delta =
    let values = values_on delta.line (before ++ delta ∷ []) in
    record { line = delta.line; column = natural values.column; origin = origin_in delta.fields values }

-- the mappings of these segments, which stand after those before
abbrev pub mappings_after : List Delta → List Delta → List Mapping
mappings_after before [] = []
mappings_after before (delta ∷ deltas) = mapping_after before delta ∷ mappings_after (before ++ delta ∷ []) deltas

-- The mappings of a text, a mapping for each segment, in order. They say something of accepted texts only: elsewhere
-- a sum below 0 would be 0, and a segment that spells no numbers would be a mapping without an origin.
unfoldable pub mappings_of : List ℕ → List Mapping
mappings_of text = mappings_after [] (deltas_of text)
