use Rattle.std.proofs.Common.{◌≡◌, None, take, drop}
use Rattle.std.specs.List.{last_or}
use Rattle.smap_mappings.specs.Encode.{list_fault_from, list_fault}
use Rattle.smap_mappings.specs.Writing.{IsLengthOf}
use Rattle.smap_mappings.proofs.canonical.text_length.Given as goal

-- the length of what the mappings so far are written as is known, and none of them has a fault
abbrev pub invariant-loop-i : goal.invariant-loop-i
invariant-loop-i l = record {
  found : IsLengthOf (take l.i l.list) l.length;
  faultless : list_fault l.list ≡ list_fault_from l.i (last_or None (take l.i l.list)) (drop l.i l.list);
}
