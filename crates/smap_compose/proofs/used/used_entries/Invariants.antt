use Rattle.std.proofs.Common.{take}
use Rattle.smap_compose.specs.Private.Used.{AreUsed}
use Rattle.smap_compose.proofs.used.used_entries.Given as goal

-- what the mappings so far have is marked
abbrev pub invariant-loop-mapping : goal.invariant-loop-mapping
invariant-loop-mapping l = AreUsed l.fn.sources l.fn.names (take l.mapping-index l.mappings) l.used
