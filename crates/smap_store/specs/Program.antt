-- Which generated program a URL is of (this project's own): URLs with one map have one program.
use Rattle.std.specs.Prelude.{ℕ, List, Option, Some, None}
use Rattle.smap_locations.specs.ByText.{value_under}
use Rattle.smap_locations.specs.Locations.{LocationsSeen, key_for}
use Rattle.smap_record.specs.Record.{MapRecord}
use Rattle.smap_store.specs.Stored.{StoredSeen}
use Rattle.smap_store.specs.declared.program.MapKind.{MapKind}
use Rattle.smap_store.specs.declared.program.MapKind.TheVariants.{Table, File}
use Rattle.smap_store.specs.declared.program.Program.{Program}

-- where its map is, and the URL that the table has, or the text under which the map of a file is kept
pub record ProgramSeen : Type 0 where
  pub kind : MapKind
  pub key : List ℕ

abbrev pub program_seen : Program → ProgramSeen
program_seen program = record { kind = program.kind; key = program.key.now }

-- that of a URL of which the table has a map that states this, or none
abbrev pub program_beside : Option MapRecord → (url key : List ℕ) → ProgramSeen
program_beside None url key = record { kind = File; key = key }
program_beside (Some stated) url key = record { kind = Table; key = url }

-- that of a URL
abbrev pub program_of : (exact : List (List ℕ × MapRecord)) → LocationsSeen → (url : List ℕ) → ProgramSeen
program_of exact locations url = program_beside (value_under url exact) url (key_for locations url)

abbrev pub program_in : {L : Type 0} → StoredSeen L → (url : List ℕ) → ProgramSeen
program_in maps = program_of maps.exact maps.locations
