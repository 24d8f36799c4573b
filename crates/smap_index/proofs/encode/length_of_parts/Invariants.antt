use Rattle.smap_mappings.specs.Writing.{IsLengthOf}
use Rattle.smap_mappings.specs.declared.mapping.Mapping.{Mapping}
use Rattle.std.proofs.Common.{List}
use Rattle.smap_index.specs.Parts.{joined}
use Rattle.smap_index.proofs.JoinedLaws.{IsFront}
use Rattle.smap_index.proofs.encode.length_of_parts.Given as goal

-- the length is that of the mappings in front of those that are left
abbrev pub invariant-loop-mapping : goal.invariant-loop-mapping
invariant-loop-mapping l = record {
  can : (goal.iterator-loop-mapping).can_next l.mapping-iterator;
  finite : (goal.iterator-loop-mapping).is_finite l.mapping-iterator;
  counted : (front : List Mapping) × IsFront front l.mapping-iterator (joined l.fn.parts) × IsLengthOf front l.length;
}
