-- The parts of a map (ECMA-426, Index source map): each text's mappings at its part's offset, joined part after part.
use Rattle.std.specs.Prelude.{ℕ, ◌+◌, List, ◌==◌, if◌then◌else◌, length, map, option_map}
use Rattle.std.specs.List.{flat_map, sum_by}
use Rattle.smap_mappings.specs.Mappings.{mappings_of}
use Rattle.smap_mappings.specs.declared.mapping.Mapping.{Mapping}
use Rattle.smap_mappings.specs.declared.mapping.Origin.{Origin}
use Rattle.smap_index.specs.declared.part.Part.{Part}

-- an origin of a part's text, its indices being those of the whole map
abbrev pub placed_origin : Part → Origin → Origin
placed_origin part origin = record origin { source = part.source_base + origin.source; name = option_map (λ name. part.name_base + name) origin.name }

-- a mapping of a part's text at its place: the line is moved, and the column where the text line is the first
abbrev pub placed_mapping : Part → Mapping → Mapping
placed_mapping part mapping = record {
  line = part.line + mapping.line;
  column = if mapping.line == 0 then part.column + mapping.column else mapping.column;
  origin = option_map (placed_origin part) mapping.origin;
}

-- the mappings of a part
unfoldable pub placed : Part → List Mapping
placed part = map (placed_mapping part) (mappings_of part.text)

-- the mappings of all parts, part after part
abbrev pub joined : List Part → List Mapping
joined parts = flat_map placed parts

-- how many parts a map has at most
abbrev pub most_parts : ℕ
most_parts = 65536

-- how many bytes the texts of the parts have together
abbrev pub bytes_in : List Part → ℕ
bytes_in parts = sum_by (λ part. length part.text) parts

-- a text as a part that begins at the start and moves no index
abbrev pub whole_text : List ℕ → Part
whole_text text = record { line = 0; column = 0; text = text; source_base = 0; name_base = 0 }
