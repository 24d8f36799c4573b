use Rattle.std.proofs.Common.{◌≡◌, take, string_bytes, flat_map}
use Rattle.smap_verdicts.specs.Segment.{next_number}
use Rattle.smap_verdicts.proofs.segment_lines.next_numbers.Given as goal

abbrev pub invariant-loop-number : goal.invariant-loop-number
invariant-loop-number l = string_bytes l.text ≡ flat_map next_number (take l.number-index l.numbers)
