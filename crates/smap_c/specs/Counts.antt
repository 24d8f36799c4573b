-- How much a map holds.
use Rattle.std.specs.Prelude.{length}
use Rattle.smap_index.specs.Marks.{marks, used_lines_in}
use Rattle.smap_index.specs.Parts.{joined}
use Rattle.smap_record.specs.MapFile.{Map}
use Rattle.smap_c.specs.declared.counts.Counts.{Counts}

-- its sections, sources, names and mappings, the lines that hold one, and the checkpoints
abbrev pub counts_of : Map → Counts
counts_of map = record {
  sections = length map.stated.parts;
  sources = length map.stated.sources;
  names = length map.stated.names;
  segments = length (joined map.stated.parts);
  lines = used_lines_in map.stated.parts;
  checkpoints = length (marks map.stated.parts map.k);
}
