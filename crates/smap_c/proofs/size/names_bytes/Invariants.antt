use Rattle.std.proofs.Common.{◌≡◌, length, take}
use Rattle.std.specs.List.{sum_by}
use Rattle.smap_c.specs.Size.{counted}
use Rattle.smap_c.proofs.size.names_bytes.Given as goal

-- the first names are counted
abbrev pub invariant-loop-index : goal.invariant-loop-index
invariant-loop-index l = l.bytes ≡ counted (sum_by length (take l.index l.file.stated.names))
