use Rattle.std.proofs.Common.{◌≡◌, None, take, drop}
use Rattle.std.specs.List.{last_or}
use Rattle.smap_mappings.specs.Encode.{list_fault_from}
use Rattle.smap_mappings.specs.Writing.{IsWritten}
use Rattle.smap_mappings.proofs.canonical.write_text.Given as goal

-- the mappings so far are written, and none of the others has a fault
abbrev pub invariant-loop-mapping : goal.invariant-loop-mapping
invariant-loop-mapping l = record {
  written : IsWritten (take l.mapping-index l.list) l.writer;
  faultless : list_fault_from l.mapping-index (last_or None (take l.mapping-index l.list)) (drop l.mapping-index l.list) ≡ None;
}
