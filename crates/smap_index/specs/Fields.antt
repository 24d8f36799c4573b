-- How the fields of an index are seen. Only the model of `Index` cites it.
use Rattle.smap_index.specs.Index.{IndexContents}
use Rattle.smap_index.specs.declared.index.Index.TheInside.{Inside}

-- the table is seen as the list of its checkpoints
abbrev pub contents_of : Inside → IndexContents
contents_of inside = record {
  parts = inside.parts.items;
  k = inside.k;
  checkpoints = inside.table;
  segments = inside.segments;
  used_lines = inside.used_lines;
}
