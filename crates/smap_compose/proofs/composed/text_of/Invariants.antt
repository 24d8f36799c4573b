use Rattle.std.proofs.Common.{take}
use Rattle.smap_mappings.specs.Writing.{IsWritten}
use Rattle.smap_compose.proofs.composed.text_of.Given as goal

-- the mappings so far are written
abbrev pub invariant-loop-mapping : goal.invariant-loop-mapping
invariant-loop-mapping l = IsWritten (take l.mapping-index l.mappings) l.writer
