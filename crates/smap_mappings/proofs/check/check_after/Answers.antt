use Rattle.std.proofs.Common.{ap}
use Rattle.std.specs.Option.{option_map}
use Rattle.smap_mappings.specs.Faults.{first_fault, fault_of}
use Rattle.smap_mappings.proofs.check.check_after.Goals as goal

pub returns-in-Ok-clause-fault : goal.returns-in-Ok-clause-fault
unfolding first_fault
returns-in-Ok-clause-fault c = ap (option_map fault_of) c.in-Ok.ensures.faulty

pub returns-in-Err-clause-fault : goal.returns-in-Err-clause-fault
unfolding first_fault
returns-in-Err-clause-fault c = rw c.fault.ensures (ap (option_map fault_of) c.in-Err.ensures.faulty.faulty)
