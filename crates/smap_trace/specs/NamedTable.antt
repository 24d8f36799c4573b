-- The maps of a table, with the written names of functions.
use Rattle.std.specs.Prelude.{◌≡◌, ℕ, List, Option}
use Rattle.smap_locations.specs.ByText.{value_under}
use Rattle.smap_record.specs.Record.{MapRecord}
use Rattle.smap_trace.specs.FunctionNames.{FunctionNames, names_beside}
use Rattle.smap_trace.specs.declared.named_table.NamedTable.{NamedTable}

-- what names the functions of the program of a URL: its map, and its declarations
abbrev pub names_in : NamedTable → (url : List ℕ) → Option FunctionNames
names_in maps url = names_beside (value_under url maps.table.now) (value_under url maps.declared.now)

abbrev pub GivesOfTable : NamedTable → (url : List ℕ) → Option MapRecord → Option FunctionNames → Type 0
GivesOfTable maps url stated written = (stated ≡ value_under url maps.table.now) × (written ≡ names_in maps url)
