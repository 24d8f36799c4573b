use Rattle.std.proofs.Common.{◌≡◌, ◌≤◌, drop}
use Rattle.smap_lines.specs.Numbers.{read_on}
use Rattle.smap_lines.proofs.numbers.number.Given as goal

-- the rest is read on from the value so far
abbrev pub invariant-loop-byte : goal.invariant-loop-byte
invariant-loop-byte l = record {
  small : l.value ≤ 2147483648;
  rest : read_on 0 l.text ≡ read_on l.value (drop l.byte-index l.text);
}
