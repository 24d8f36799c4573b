-- What a map answers at positions, as numbers.
use Rattle.std.specs.Prelude.{List, map}
use Rattle.smap_record.specs.Record.{MapRecord, answer_of_map}
use Rattle.smap_c.specs.Look.{answer_numbers}
use Rattle.smap_c.specs.declared.look_up.FoundNumbers.{FoundNumbers}
use Rattle.smap_c.specs.declared.many.GeneratedPosition.{GeneratedPosition}

abbrev pub found_at : MapRecord → GeneratedPosition → FoundNumbers
found_at stated position = answer_numbers (answer_of_map stated position.line position.column)

-- at each of these positions, in their order
abbrev pub all_found : MapRecord → List GeneratedPosition → List FoundNumbers
all_found stated positions = map (found_at stated) positions
