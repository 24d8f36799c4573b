use Rattle.std.proofs.Common.{◌≡◌, take}
use Rattle.std.specs.List.{sum_by}
use Rattle.smap_c.specs.Size.{counted, source_bytes}
use Rattle.smap_c.proofs.size.sources_bytes.Given as goal

-- the first sources are counted
abbrev pub invariant-loop-index : goal.invariant-loop-index
invariant-loop-index l = l.bytes ≡ counted (sum_by source_bytes (take l.index l.file.stated.sources))
