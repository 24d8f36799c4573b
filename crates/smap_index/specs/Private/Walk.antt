-- What a walk through the parts finds, and how it counts the segments of a line.
use Rattle.std.specs.Prelude.{◌≡◌, ℕ, ◌+◌, ◌-◌, ◌^◌, ◌<◌, ◌≤◌, Option, Some, None, Bool, false, ◌&&◌, ◌==◌, nat_lt, if◌then◌else◌}
use Rattle.smap_mappings.specs.Limits.{most_text_bytes}
use Rattle.smap_mappings.specs.Mappings.{mappings_of}
use Rattle.smap_mappings.specs.Order.{IsInOrder}
use Rattle.smap_mappings.specs.Range.{is_mapping_past_limit, position_at}
use Rattle.smap_mappings.specs.declared.mapping.Mapping.{Mapping}
use Rattle.smap_mappings.specs.declared.mapping.Origin.{Origin}
use Rattle.smap_mappings.specs.declared.cursor.Cursor.{Cursor}
use Rattle.smap_index.specs.declared.part.Part.{Part}
use Rattle.smap_index.specs.declared.checkpoint.Checkpoint.{Checkpoint}
use Rattle.smap_mappings.specs.declared.kind.Kind.{Kind}
use Rattle.smap_mappings.specs.declared.kind.Kind.TheVariants.{Unmapped, Mapped, Named}
use Rattle.smap_index.specs.Parts.{placed_mapping}
use Rattle.smap_index.specs.Private.Search.{end_of}
use Rattle.smap_index.specs.declared.bound.Bound.{Bound}
use Rattle.smap_index.specs.Faults.{is_overlapping}

-- what a segment has whose origin has this name
abbrev pub kind_with : Option ℕ → Kind
kind_with None = Mapped
kind_with (Some name) = Named

-- what a segment with this origin has
abbrev pub kind_of : Option Origin → Kind
kind_of None = Unmapped
kind_of (Some origin) = kind_with origin.name

-- the checkpoint of a mapping of this part, which has this number, with the state after its segment: the running
-- values and what the part adds to them
abbrev pub checkpoint_at : ℕ → Part → Mapping → Cursor → Checkpoint
checkpoint_at number part mapping after = record {
  part = number;
  kind = kind_of mapping.origin;
  place = after.place;
  line = part.line + after.line;
  column = if after.line == 0 then part.column + after.column else after.column;
  source = part.source_base + after.source;
  original_line = after.original_line;
  original_column = after.original_column;
  name = part.name_base + after.name;
}

-- a state of the part's text fits a checkpoint, its source and its name at their place
pub record IsFitting (part : Part) (state : Cursor) : Type 0 where
  pub short : state.place ≤ most_text_bytes
  pub sources : part.source_base + state.source < 2 ^ 32
  pub names : part.name_base + state.name < 2 ^ 32

-- the number on its line of a mapping on the next line, counted from 0 anew at each checkpoint of the line, where one
-- with this number on this line stands before it
abbrev pub number_after : ℕ → ℕ → ℕ → ℕ → ℕ
number_after interval line number next = if line == next && nat_lt (number + 1) interval then number + 1 else 0

-- a mapping of these values that has no origin
abbrev pub position_of : Cursor → Mapping
position_of values = position_at values.line values.column

-- no number of the part's mapping is past the limit at its place
abbrev pub IsPlacedInRange : Part → Mapping → Type 0
IsPlacedInRange part mapping = is_mapping_past_limit (placed_mapping part mapping) ≡ false

-- the column on this line of the part's text before which a mapping stands up to the bound, where that is the bound's
-- line
abbrev pub end_in : Part → Bound → ℕ → ℕ
end_in part bound line = if line == 0 then end_of bound - part.column else end_of bound

-- the mappings of the part's text are in order
abbrev pub IsTextInOrder : Part → Type 0
IsTextInOrder part = IsInOrder (mappings_of part.text)

-- a mapping of the part, at its place, stands after the offset of the next part, if there is one
abbrev pub is_overlapping_next : Part → Option Part → Bool
is_overlapping_next part None = false
is_overlapping_next part (Some next) = is_overlapping (part, next)
