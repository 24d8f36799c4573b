use Rattle.std.proofs.Common.{◌≡◌, ◌++◌}
use Rattle.smap_index.specs.Parts.{joined}
use Rattle.smap_c.specs.Mappings.{mapping_bytes}
use Rattle.smap_c.proofs.mappings.mapping_bytes.Given as goal

-- the mappings before those that are left were put
abbrev pub invariant-loop-mapping : goal.invariant-loop-mapping
invariant-loop-mapping l = record {
  can : goal.iterator-loop-mapping.can_next l.mapping-iterator;
  finite : goal.iterator-loop-mapping.is_finite l.mapping-iterator;
  put : mapping_bytes (joined l.file.stated.parts) ≡ l.bytes.items ++ mapping_bytes l.mapping-iterator;
}
