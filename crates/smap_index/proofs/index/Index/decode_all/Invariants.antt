use Rattle.smap_index.specs.Parts.{joined}
use Rattle.smap_index.proofs.JoinedLaws.{IsFront}
use Rattle.smap_index.proofs.index.Index.decode_all.Given as goal

-- the list has the mappings in front of those that are left
abbrev pub invariant-loop-mapping : goal.invariant-loop-mapping
invariant-loop-mapping l = record {
  can : (goal.iterator-loop-mapping).can_next l.mapping-iterator;
  finite : (goal.iterator-loop-mapping).is_finite l.mapping-iterator;
  listed : IsFront l.list.items l.mapping-iterator (joined l.self.parts);
}
