use Rattle.std.proofs.Common.{ap, refl}
use Rattle.std.specs.Option.{option_map}
use Rattle.smap_mappings.specs.Faults.{first_fault, fault_of}
use Rattle.smap_mappings.specs.Private.Step.{faulty_at}
use Rattle.smap_mappings.proofs.SegmentLaws.{segment_is_slice}
use Rattle.smap_mappings.proofs.faulty.faulty_segment.Goals as goal

pub returns-in-Ok-clause-fault : goal.returns-in-Ok-clause-fault
unfolding first_fault
returns-in-Ok-clause-fault c = ap (option_map fault_of) c.in-Ok.ensures.faulty

pub returns-in-Err-clause-first : goal.returns-in-Err-clause-first
returns-in-Err-clause-first c =
    let found = c.in-Err.ensures.faulty in
    let at = c.in-Err.found.at in
    record {
      faulty = faulty_at c.args.bytes.now found.j at c.in-Err.found.kind;
      is_first = found.faulty;
      fault = c.fault.ensures;
      bytes = rw c.fault.ensures (segment_is_slice c.args.bytes.now at.place c.segment_end.result c.segment_end.ensures.end);
      place = refl;
      line = refl;
      before = found.after.values;
      after = c.values_past.ensures found.j c.in-Err.found.kind found.after;
    }

pub returns-in-Err-clause-fault : goal.returns-in-Err-clause-fault
unfolding first_fault
returns-in-Err-clause-fault c = rw c.fault.ensures (ap (option_map fault_of) c.in-Err.ensures.faulty.faulty)
