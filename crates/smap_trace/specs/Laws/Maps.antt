-- Laws of the maps of a table, which their trait asks for: each is there from the first, and stays.
use Rattle.std.specs.Prelude.{◌≡◌, ℕ, List, None, Option, false, true}
use Rattle.std.proofs.Common.{ap, ◌∙◌}
use Rattle.smap_record.specs.Record.{MapRecord}
use Rattle.smap_locations.specs.ByText.{value_under}
use Rattle.smap_trace.specs.FunctionNames.{FunctionNames}
use Rattle.smap_trace.specs.NamedTable.{GivesOfTable, names_in}
use Rattle.smap_trace.specs.declared.maps.TableMaps.{TableMaps}
use Rattle.smap_trace.specs.declared.named_table.NamedTable.{NamedTable}

pub table_given : (maps after : TableMaps) (url : List ℕ) → after ≡ maps → value_under url after.0.now ≡ value_under url maps.0.now
table_given maps after url is = ap (λ m. value_under url m.0.now) is

pub table_same : (maps after : TableMaps) (url other : List ℕ) (stated : Option MapRecord) → after ≡ maps → stated ≡ value_under other after.0.now
    → stated ≡ value_under other maps.0.now
table_same maps after url other stated is gives = gives ∙ ap (λ m. value_under other m.0.now) is

-- ---- with the names of functions

pub named_given : (maps after : NamedTable) (url : List ℕ) → after ≡ maps → value_under url after.table.now ≡ value_under url maps.table.now
named_given maps after url is = ap (λ m. value_under url m.table.now) is

pub named_same : (maps after : NamedTable) (url other : List ℕ) (stated : Option MapRecord) → after ≡ maps → stated ≡ value_under other after.table.now
    → stated ≡ value_under other maps.table.now
named_same maps after url other stated is gives = gives ∙ ap (λ m. value_under other m.table.now) is

pub named_given_names : (maps after : NamedTable) (url : List ℕ) → after ≡ maps → GivesOfTable maps url (value_under url after.table.now) (names_in after url)
named_given_names maps after url is = (ap (λ m. value_under url m.table.now) is, ap (λ m. names_in m url) is)

pub named_same_names : (maps after : NamedTable) (url other : List ℕ) (stated : Option MapRecord) (written : Option FunctionNames) → after ≡ maps
    → GivesOfTable after other stated written → GivesOfTable maps other stated written
named_same_names maps after url other stated written is gives =
    (gives.0 ∙ ap (λ m. value_under other m.table.now) is, gives.1 ∙ ap (λ m. names_in m other) is)

-- they are known of some
pub is_named : (written : Option FunctionNames) → true ≡ false → written ≡ None
is_named written never = absurd (cc)
