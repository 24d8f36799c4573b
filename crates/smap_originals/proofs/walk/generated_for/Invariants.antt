use Rattle.std.proofs.Common.{◌≡◌, ◌++◌}
use Rattle.smap_index.specs.Parts.{joined}
use Rattle.smap_originals.specs.Generated.{generated_for}
use Rattle.smap_originals.proofs.walk.generated_for.Given as goal

abbrev pub invariant-loop-mapping : goal.invariant-loop-mapping
invariant-loop-mapping l = record {
  can : (goal.iterator-loop-mapping).can_next l.mapping-iterator;
  finite : (goal.iterator-loop-mapping).is_finite l.mapping-iterator;
  found : l.found.items ++ generated_for l.mapping-iterator l.source l.line ≡ generated_for (joined l.fn.map.stated.parts) l.source l.line;
}
