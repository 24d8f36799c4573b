-- A state between two segments of a text: a place, and all running values there (ECMA-426, Mappings structure).
use Rattle.std.specs.Prelude.{◌≡◌, ℕ, ◌+◌, ◌<◌, ◌≤◌, List, Option, Some, None, length, take, drop, slice_get, pos, IfSome}
use Rattle.std.specs.List.{AllByRecursion}
use Rattle.smap_mappings.specs.Segments.{segments_of, segments_from}
use Rattle.smap_mappings.specs.Mappings.{Delta, RunningValues, deltas_of, values_on, mappings_of}
use Rattle.smap_mappings.specs.declared.cursor.Cursor.{Cursor}
use Rattle.smap_mappings.specs.declared.kind.Kind.{Kind}
use Rattle.smap_mappings.specs.declared.kind.Kind.TheVariants.{Unmapped, Mapped, Named}
use Rattle.smap_mappings.specs.declared.mapping.Mapping.{Mapping}
use Rattle.smap_mappings.specs.declared.mapping.Origin.{Origin}
use Rattle.smap_mappings.specs.declared.sums.RunningSums.{RunningSums}

-- the running values of a state
abbrev pub values_at : Cursor → RunningValues
values_at cursor = record {
  column = pos cursor.column;
  source = pos cursor.source;
  original_line = pos cursor.original_line;
  original_column = pos cursor.original_column;
  name = pos cursor.name;
}

-- the sums as running values
abbrev pub values_in : RunningSums → RunningValues
values_in sums = record {
  column = sums.column;
  source = sums.source;
  original_line = sums.original_line;
  original_column = sums.original_column;
  name = sums.name;
}

-- This state is the one after j segments of this text: what is left of the text from its place on, on its line, are
-- the segments from number j on, and its running values are those after j segments, on its line.
pub record IsAfter (text : List ℕ) (j : ℕ) (cursor : Cursor) : Type 0 where
  pub count : j ≤ length (segments_of text)
  pub inside : cursor.place ≤ length text
  pub line_within : cursor.line ≤ cursor.place
  pub rest : segments_from cursor.line cursor.place (drop cursor.place text) ≡ drop j (segments_of text)
  pub lines : AllByRecursion (λ (delta : Delta). delta.line ≤ cursor.line) (take j (deltas_of text))
  pub values : values_at cursor ≡ values_on cursor.line (take j (deltas_of text))

-- the state after some number of segments
abbrev pub IsBetween : List ℕ → Cursor → Type 0
IsBetween text cursor = (j : ℕ) × IsAfter text j cursor

-- the origin of these running values, with this name
abbrev pub origin_at : Cursor → Option ℕ → Origin
origin_at cursor name = record { source = cursor.source; line = cursor.original_line; column = cursor.original_column; name = name }

-- the origin of a segment that has this much, where this is the state after it
abbrev pub origin_of_kind : Kind → Cursor → Option Origin
origin_of_kind Unmapped cursor = None
origin_of_kind Mapped cursor = Some (origin_at cursor None)
origin_of_kind Named cursor = Some (origin_at cursor (Some cursor.name))

-- and its mapping
abbrev pub mapping_at : Kind → Cursor → Mapping
mapping_at kind cursor = record { line = cursor.line; column = cursor.column; origin = origin_of_kind kind cursor }

-- the origin's numbers are the running values of this state
pub record IsOriginAt (cursor : Cursor) (origin : Origin) : Type 0 where
  pub source : origin.source ≡ cursor.source
  pub line : origin.line ≡ cursor.original_line
  pub column : origin.column ≡ cursor.original_column
  pub name : IfSome origin.name (λ name. name ≡ cursor.name)

-- the numbers of the mapping are the running values of this state, as far as it has them
pub record IsMappingAt (cursor : Cursor) (mapping : Mapping) : Type 0 where
  pub line : mapping.line ≡ cursor.line
  pub column : mapping.column ≡ cursor.column
  pub origin : IfSome mapping.origin (IsOriginAt cursor)

-- a mapping with this number stands on a later line than this one
abbrev pub IsOnLaterLine : List ℕ → ℕ → ℕ → Type 0
IsOnLaterLine text j line = (mapping : Mapping) → slice_get (mappings_of text) j ≡ Some mapping → line < mapping.line

-- segment j is there, its mapping is this one, and this is the state after it
pub record IsNext (text : List ℕ) (j : ℕ) (mapping : Mapping) (next : Cursor) : Type 0 where
  pub more : j < length (segments_of text)
  pub mapping_is : slice_get (mappings_of text) j ≡ Some mapping
  pub after : IsAfter text (j + 1) next
