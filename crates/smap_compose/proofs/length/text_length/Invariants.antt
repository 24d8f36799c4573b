use Rattle.std.proofs.Common.{take}
use Rattle.smap_mappings.specs.Writing.{IsLengthOf}
use Rattle.smap_compose.proofs.length.text_length.Given as goal

-- the length of the mappings so far is known
abbrev pub invariant-loop-mapping : goal.invariant-loop-mapping
invariant-loop-mapping l = IsLengthOf (take l.mapping-index l.mappings) l.length
