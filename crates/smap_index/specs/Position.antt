-- Where a part begins. The order of positions is `stands_before` of smap_mappings, by line and then by column.
use Rattle.std.specs.Prelude.{◌<◌}
use Rattle.smap_mappings.specs.Range.{position_at}
use Rattle.smap_mappings.specs.declared.mapping.Mapping.{Mapping}
use Rattle.smap_mappings.specs.declared.position.Position.{Position}
use Rattle.smap_index.specs.declared.part.Part.{Part}

-- the offset of a part
abbrev pub offset_of : Part → Mapping
offset_of part = position_at part.line part.column

-- where a mapping stands
abbrev pub position_of_mapping : Mapping → Mapping
position_of_mapping mapping = position_at mapping.line mapping.column

-- both numbers are far below what 64 bits hold, so that they can be counted from 1
abbrev pub IsFarBelow : Position → Type 0
IsFarBelow position = (position.line < 8589934592) × (position.column < 8589934592)
