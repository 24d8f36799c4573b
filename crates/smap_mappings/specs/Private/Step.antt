-- What a step from a state gives, one segment more.
use Rattle.std.specs.Prelude.{◌≡◌, ℕ, ℤ, ◌+◌, ◌<◌, ◌≤◌, List, [], ◌∷◌, ◌++◌, Option, Some, None, length, take, drop}
use Rattle.smap_mappings.specs.Segments.{TextSegment, segment_on, segments_of}
use Rattle.smap_mappings.specs.Mappings.{deltas_of}
use Rattle.smap_mappings.specs.Faults.{FaultyPlace, first_faulty_after}
use Rattle.smap_mappings.specs.State.{IsAfter, IsNext, mapping_at}
use Rattle.smap_mappings.specs.Private.Reading.{segment_at}
use Rattle.smap_mappings.specs.declared.cursor.Cursor.{Cursor}
use Rattle.smap_mappings.specs.declared.fault.FaultKind.{FaultKind}
use Rattle.smap_mappings.specs.declared.kind.Kind.{Kind}
use Rattle.smap_mappings.specs.declared.mapping.Mapping.{Mapping}
use Rattle.smap_mappings.specs.declared.mapping.Origin.{Origin}
use Rattle.smap_mappings.specs.declared.segment.Segment.{Segment}
use Rattle.smap_mappings.specs.declared.segment.OriginFields.{OriginFields}

-- the first faulty segment from number j on
abbrev pub faulty_from : List ℕ → ℕ → ℕ → ℕ → Option FaultyPlace
faulty_from text sources names j = first_faulty_after sources names (take j (deltas_of text)) (drop j (segments_of text))

-- the bytes at the state's place up to the end of the segment, on the state's line
abbrev pub segment_at_cursor : List ℕ → Cursor → TextSegment
segment_at_cursor text cursor = segment_on cursor.line (cursor.place, segment_at text cursor.place)

-- segment j, which stands at the state's place, with this kind of fault
abbrev pub faulty_at : List ℕ → ℕ → Cursor → FaultKind → FaultyPlace
faulty_at text j cursor kind = record { before = take j (deltas_of text); segment = segment_at_cursor text cursor; kind = kind }

-- segment j has no fault, and stands on the line of the state after it
pub record IsStep (text : List ℕ) (j sources names : ℕ) (mapping : Mapping) (after : Cursor) : Type 0 where
  pub passes : faulty_from text sources names j ≡ faulty_from text sources names (j + 1)
  pub next : IsNext text j mapping after
  pub fields : List ℤ
  pub taken : take (j + 1) (deltas_of text) ≡ take j (deltas_of text) ++ record { line = after.line; fields = fields } ∷ []

-- the state's name index, for a segment that has a name
abbrev pub cursor_name : Option ℤ → Cursor → Option ℕ
cursor_name None cursor = None
cursor_name (Some name) cursor = Some cursor.name

-- the state's origin, for a segment that has one
abbrev pub cursor_origin : Option OriginFields → Cursor → Option Origin
cursor_origin None cursor = None
cursor_origin (Some origin) cursor = Some
    (record { source = cursor.source; line = cursor.original_line; column = cursor.original_column; name = cursor_name origin.name cursor })

-- the mapping of a segment, from the state after it
abbrev pub mapping_in : Segment → Cursor → Mapping
mapping_in segment cursor = record { line = cursor.line; column = cursor.column; origin = cursor_origin segment.origin cursor }

-- a segment that has this much stands at the state's place, or is joined to the state, on its line, and the other state
-- is the one after it
pub record IsSteppedTo (text : List ℕ) (cursor : Cursor) (kind : Kind) (after : Cursor) : Type 0 where
  pub ahead : cursor.place < after.place
  pub inside : after.place ≤ length text
  pub line : after.line ≡ cursor.line
  pub next : (j : ℕ) → IsAfter text j cursor → IsNext text j (mapping_at kind after) after
