use Rattle.std.proofs.Common.{◌≡◌, take}
use Rattle.std.specs.List.{list_any}
use Rattle.smap_printing.specs.Private.Escapes.{is_escaped}
use Rattle.smap_printing.proofs.map_text.has_escaped.Given as goal

abbrev pub invariant-loop-byte : goal.invariant-loop-byte
invariant-loop-byte l = l.found ≡ list_any is_escaped (take l.byte-index l.text)
