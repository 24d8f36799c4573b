use Rattle.std.proofs.Common.{◌-◌, List, length}
use Rattle.smap_mappings.specs.Writing.{IsWritten}
use Rattle.smap_mappings.specs.declared.mapping.Mapping.{Mapping}
use Rattle.smap_mappings.proofs.Checking.{DecodesUpTo}
use Rattle.smap_mappings.proofs.copied.write_anew.Given as goal

-- the mappings so far are written
abbrev pub invariant-loop-kind : goal.invariant-loop-kind
invariant-loop-kind l = record {
  list : List Mapping;
  decodes : DecodesUpTo l.bytes l.at list;
  written : IsWritten list l.writer;
}

abbrev pub decreases-loop-kind : goal.decreases-loop-kind
decreases-loop-kind l = length l.bytes - l.at.place
