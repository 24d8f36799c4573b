-- The maps that are there, each under the URL that an argument names, and where others are.
use Rattle.std.specs.Prelude.{ℕ, List}
use Rattle.smap_locations.specs.Locations.{LocationsSeen}
use Rattle.smap_record.specs.Record.{MapRecord}

pub record MapsSeen : Type 0 where
  pub table : List (List ℕ × MapRecord)
  pub locations : LocationsSeen
