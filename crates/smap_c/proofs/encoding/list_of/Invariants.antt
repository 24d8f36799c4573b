use Rattle.std.proofs.Common.{◌≡◌, map, take}
use Rattle.smap_c.specs.Encoding.{mapping_in}
use Rattle.smap_c.proofs.encoding.list_of.Given as goal

-- the first mappings are listed
abbrev pub invariant-loop-numbers : goal.invariant-loop-numbers
invariant-loop-numbers l = l.list.items ≡ map mapping_in (take l.numbers-index l.mappings)
