-- The maps of a table, with the written names of functions.
use Rattle.std.specs.Prelude.{◌≡◌, ℕ, List, Option}
use Rattle.smap_record.specs.Record.{MapRecord}
use Rattle.smap_store.specs.UrlTable.{map_under, names_under}
use Rattle.smap_store.specs.declared.url_maps.UrlMaps.{UrlMaps}
use Rattle.smap_trace.specs.FunctionNames.{FunctionNames}

-- a URL has its map of the table, and what names the functions of its program
abbrev pub GivesOfUrls : UrlMaps → (url : List ℕ) → Option MapRecord → Option FunctionNames → Type 0
GivesOfUrls maps url stated written =
    (stated ≡ map_under maps.cut maps.table.now url) × (written ≡ names_under maps.cut maps.table.now url)
