use Rattle.std.proofs.Common.{◌≡◌, ◌++◌, List}
use Rattle.smap_index.specs.Parts.{joined}
use Rattle.smap_mappings.specs.declared.mapping.Mapping.{Mapping}
use Rattle.smap_originals.specs.Generated.{generated_for, on_side}
use Rattle.smap_originals.specs.Private.Nearest.{IsNearestOf}
use Rattle.smap_originals.proofs.walk.generated_next.Given as goal

-- the mappings so far and those that are left are all, and of the former the nearest are found
abbrev pub invariant-loop-mapping : goal.invariant-loop-mapping
invariant-loop-mapping l = record {
  can : (goal.iterator-loop-mapping).can_next l.mapping-iterator;
  finite : (goal.iterator-loop-mapping).is_finite l.mapping-iterator;
  walked : (done : List Mapping) × (done ++ l.mapping-iterator ≡ joined l.fn.map.stated.parts)
      × IsNearestOf l.asked.direction (on_side l.asked.direction l.asked.column (generated_for done l.asked.source l.asked.line)) l.nearest;
}
