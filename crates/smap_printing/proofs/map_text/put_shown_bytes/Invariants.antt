use Rattle.std.proofs.Common.{flat_map, take}
use Rattle.smap_printing.specs.Private.Escapes.{shown_piece}
use Rattle.smap_printing.proofs.map_text.put_shown_bytes.Given as goal

abbrev pub invariant-loop-byte : goal.invariant-loop-byte
invariant-loop-byte g l = record {
  puts : g.O.Output.Puts l.initial.output l.output (flat_map shown_piece (take l.byte-index l.bytes));
}
