-- What a checkpoint shows: its mapping at its place in the joined list, and the state after its segment in the text of
-- its part. A checkpoint has the running values there (ECMA-426, Mappings structure) at their place in the joined list.
use Rattle.std.specs.Prelude.{ℕ, ◌-◌, Option, Some, None, ◌==◌, if◌then◌else◌}
use Rattle.smap_mappings.specs.declared.cursor.Cursor.{Cursor}
use Rattle.smap_mappings.specs.declared.mapping.Mapping.{Mapping}
use Rattle.smap_mappings.specs.declared.mapping.Origin.{Origin}
use Rattle.smap_index.specs.declared.checkpoint.Checkpoint.{Checkpoint}
use Rattle.smap_mappings.specs.declared.kind.Kind.{Kind}
use Rattle.smap_mappings.specs.declared.kind.Kind.TheVariants.{Unmapped, Mapped, Named}
use Rattle.smap_index.specs.declared.part.Part.{Part}

-- the origin that the running values are, with this name
abbrev pub origin_with : Checkpoint → Option ℕ → Origin
origin_with checkpoint name = record { source = checkpoint.source; line = checkpoint.original_line; column = checkpoint.original_column; name = name }

-- the origin of a segment that has this much
abbrev pub origin_of : Kind → Checkpoint → Option Origin
origin_of Unmapped checkpoint = None
origin_of Mapped checkpoint = Some (origin_with checkpoint None)
origin_of Named checkpoint = Some (origin_with checkpoint (Some checkpoint.name))

-- the mapping, at its place in the joined list
abbrev pub mapping_of : Checkpoint → Mapping
mapping_of checkpoint = record { line = checkpoint.line; column = checkpoint.column; origin = origin_of checkpoint.kind checkpoint }

-- the state after the segment: the running values without what its part adds, which moves the column on the text's
-- first line alone
abbrev pub state_of : Part → Checkpoint → Cursor
state_of part checkpoint =
    let line = checkpoint.line - part.line in
    record {
      place = checkpoint.place;
      line = line;
      column = if line == 0 then checkpoint.column - part.column else checkpoint.column;
      source = checkpoint.source - part.source_base;
      original_line = checkpoint.original_line;
      original_column = checkpoint.original_column;
      name = checkpoint.name - part.name_base;
    }
