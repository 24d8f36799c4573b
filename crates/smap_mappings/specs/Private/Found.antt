-- The state before the first faulty segment of a text.
use Rattle.std.specs.Prelude.{◌≡◌, ℕ, ◌<◌, List, Some, true, length, slice_index}
use Rattle.smap_mappings.specs.Faults.{first_faulty}
use Rattle.smap_mappings.specs.State.{IsAfter}
use Rattle.smap_mappings.specs.Private.Reading.{is_inside}
use Rattle.smap_mappings.specs.Private.Step.{faulty_at}
use Rattle.smap_mappings.specs.declared.check.FoundFault.{FoundFault}
use Rattle.smap_mappings.specs.declared.fault.Fault.{Fault}

-- the fault of the segment at the state's place
abbrev pub fault_at : FoundFault → Fault
fault_at found = record { byte = found.at.place; line = found.at.line; kind = found.kind }

-- the state is before segment j, which is the first faulty one, with this kind of fault
pub record IsFoundIn (text : List ℕ) (sources names : ℕ) (found : FoundFault) : Type 0 where
  pub j : ℕ
  pub after : IsAfter text j found.at
  pub within : found.at.place < length text
  pub inside : is_inside (slice_index text found.at.place) ≡ true
  pub faulty : first_faulty text sources names ≡ Some (faulty_at text j found.at found.kind)
