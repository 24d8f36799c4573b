-- What is known of the maps of URLs, and of what their programs declare (this project's own).
use Rattle.std.specs.Prelude.{◌≡◌, ℕ, List, Option, Some}
use Rattle.smap_declarations.specs.Declarations.{Named}
use Rattle.smap_record.specs.Record.{MapRecord}
use Rattle.smap_trace.specs.FunctionNames.{FunctionNames, names_beside}
use Rattle.smap_trace.specs.MapsOf.{NamedByUrl}

-- of each URL what its map states, or that it has none; or that this is not known
abbrev pub KnownByUrl : Type 0
KnownByUrl = (url : List ℕ) → Option (Option MapRecord)

-- of each URL the declarations of its program, where these are known
abbrev pub DeclaredByUrl : Type 0
DeclaredByUrl = (url : List ℕ) → Option (List Named)

-- both
pub record NamedKnown : Type 0 where
  pub maps : KnownByUrl
  pub declared : DeclaredByUrl

abbrev pub with_declared : KnownByUrl → DeclaredByUrl → NamedKnown
with_declared known declared = record { maps = known; declared = declared }

-- a URL whose map is known has that in these maps, and the names that this map and the declarations give
abbrev pub AgreesNamed : NamedKnown → NamedByUrl → Type 0
AgreesNamed known maps = (url : List ℕ) → (stated : Option MapRecord) → known.maps url ≡ Some stated
    → (maps.maps url ≡ stated) × (maps.names url ≡ names_beside stated (known.declared url))

-- what is found under a URL: its map, where it has one, and what names the functions of its program
abbrev pub found_under : NamedByUrl → (url : List ℕ) → Option MapRecord × Option FunctionNames
found_under maps url = (maps.maps url, maps.names url)

-- the same where this map is known of it
abbrev pub found_by : NamedKnown → (url : List ℕ) → (stated : Option MapRecord) → Option MapRecord × Option FunctionNames
found_by known url stated = (stated, names_beside stated (known.declared url))
