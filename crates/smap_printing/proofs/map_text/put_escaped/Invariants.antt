use Rattle.std.proofs.Common.{flat_map, take}
use Rattle.json.specs.Print.{escape_byte}
use Rattle.smap_printing.proofs.map_text.put_escaped.Given as goal

abbrev pub invariant-loop-byte : goal.invariant-loop-byte
invariant-loop-byte g l = record {
  puts : g.O.Output.Puts l.initial.output l.output (flat_map escape_byte (take l.byte-index l.text));
}
