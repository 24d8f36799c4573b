use Rattle.std.proofs.Common.{◌≡◌, take}
use Rattle.std.specs.Char.{is_ascii_control}
use Rattle.std.specs.List.{list_any}
use Rattle.smap_lines.proofs.bytes.has_control.Given as goal

abbrev pub invariant-loop-byte : goal.invariant-loop-byte
invariant-loop-byte l = l.found ≡ list_any is_ascii_control (take l.byte-index l.text)
