-- Laws of the maps of a table, which their trait asks for: each is there from the first, and stays.
use Rattle.std.specs.Prelude.{◌≡◌, ℕ, List, Option}
use Rattle.std.proofs.Common.{ap, ◌∙◌}
use Rattle.smap_record.specs.Record.{MapRecord}
use Rattle.smap_store.specs.UrlMaps.{GivesOfUrls}
use Rattle.smap_store.specs.UrlTable.{map_under, names_under}
use Rattle.smap_store.specs.declared.url_maps.UrlMaps.{UrlMaps}
use Rattle.smap_trace.specs.FunctionNames.{FunctionNames}

pub table_given : (maps after : UrlMaps) (url : List ℕ) → after ≡ maps → map_under after.cut after.table.now url ≡ map_under maps.cut maps.table.now url
table_given maps after url is = ap (λ m. map_under m.cut m.table.now url) is

pub table_same : (maps after : UrlMaps) (url other : List ℕ) (stated : Option MapRecord) → after ≡ maps
    → stated ≡ map_under after.cut after.table.now other → stated ≡ map_under maps.cut maps.table.now other
table_same maps after url other stated is gives = gives ∙ ap (λ m. map_under m.cut m.table.now other) is

-- ---- with the names of functions

pub table_given_names : (maps after : UrlMaps) (url : List ℕ) → after ≡ maps
    → GivesOfUrls maps url (map_under after.cut after.table.now url) (names_under after.cut after.table.now url)
table_given_names maps after url is = (ap (λ m. map_under m.cut m.table.now url) is, ap (λ m. names_under m.cut m.table.now url) is)

pub table_same_names : (maps after : UrlMaps) (url other : List ℕ) (stated : Option MapRecord) (written : Option FunctionNames) → after ≡ maps
    → GivesOfUrls after other stated written → GivesOfUrls maps other stated written
table_same_names maps after url other stated written is gives =
    (gives.0 ∙ ap (λ m. map_under m.cut m.table.now other) is, gives.1 ∙ ap (λ m. names_under m.cut m.table.now other) is)
