-- What is said of the first faulty segment of a text (ECMA-426, Mappings structure).
use Rattle.std.specs.Prelude.{◌≡◌, ℕ, List, [], ◌∷◌, ◌++◌, Option, Some, None, is_some, if◌then◌else◌, slice_range}
use Rattle.std.specs.Option.{option_map}
use Rattle.smap_mappings.specs.Mappings.{RunningValues, delta_of, values_on}
use Rattle.smap_mappings.specs.Faults.{FaultyPlace, first_faulty, fault_of, spelling_fault}
use Rattle.smap_mappings.specs.State.{values_at, values_in}
use Rattle.smap_mappings.specs.declared.faulty.FaultySegment.{FaultySegment}

-- the running values before a faulty segment, the generated column being that on its line
abbrev pub values_before : FaultyPlace → RunningValues
values_before faulty = values_on faulty.segment.line faulty.before

-- and those after it
abbrev pub values_past : FaultyPlace → RunningValues
values_past faulty = values_on faulty.segment.line (faulty.before ++ delta_of faulty.segment ∷ [])

-- the running values after it, where each of its numbers is spelled right and it has one, four or five
abbrev pub known_values_past : FaultyPlace → Option RunningValues
known_values_past faulty = if is_some (spelling_fault faulty.segment.bytes) then None else Some (values_past faulty)

-- the text's first faulty segment for this many sources and names, and what is said of it
pub record IsFirstFaulty (text : List ℕ) (sources names : ℕ) (found : FaultySegment) : Type 0 where
  pub faulty : FaultyPlace
  pub is_first : first_faulty text sources names ≡ Some faulty
  pub fault : found.fault ≡ fault_of faulty
  pub bytes : slice_range text found.fault.byte found.end ≡ faulty.segment.bytes
  pub place : found.before.place ≡ faulty.segment.place
  pub line : found.before.line ≡ faulty.segment.line
  pub before : values_at found.before ≡ values_before faulty
  pub after : option_map values_in found.after ≡ known_values_past faulty
