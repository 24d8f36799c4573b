-- What the sources of a map are called by where it stands (this project's own): by its URL, where that is the path of its generated
-- file, or by the path at which its own file stands.
use Rattle.std.specs.Prelude.{ℕ, List, length, map, option_map}
use Rattle.std.specs.List.{sum_by}
use Rattle.smap_resolve.specs.Beside.{name_at_path}
use Rattle.smap_resolve.specs.ByPath.{name_from_path}
use Rattle.smap_resolve.specs.SourceName.{Name, name_text}
use Rattle.smap_record.specs.MapFile.{Map}
use Rattle.smap_record.specs.NameBytes.{text_bytes}
use Rattle.smap_record.specs.Record.{MapRecord}
use Rattle.smap_record.specs.Sources.{StatedSource}

-- ---- other names

-- a source that is called otherwise
abbrev pub source_renamed : (naming : Name → Name) → StatedSource → StatedSource
source_renamed naming source = record source { name = option_map naming source.name }

-- what a map states whose sources are
abbrev pub record_renamed : (naming : Name → Name) → MapRecord → MapRecord
record_renamed naming stated = record stated { sources = map (source_renamed naming) stated.sources }

-- the map
abbrev pub map_renamed : (naming : Name → Name) → Map → Map
map_renamed naming held = record held { stated = record_renamed naming held.stated }

-- ---- by a URL

-- what a map states at this URL
abbrev pub named_by_path : (url : List ℕ) → MapRecord → MapRecord
named_by_path url stated = record_renamed (name_from_path url) stated

-- the map
abbrev pub map_by_path : (url : List ℕ) → Map → Map
map_by_path url held = map_renamed (name_from_path url) held

-- ---- by a path

-- the map whose file stands at this path
abbrev pub map_beside : (path : List ℕ) → Map → Map
map_beside path held = map_renamed (name_at_path path) held

-- how many bytes the name of a source is made of, where so many stand before it; one without a name has none
abbrev pub source_bytes : (before : ℕ) → StatedSource → ℕ
source_bytes before source = text_bytes before (option_map name_text source.name)

-- those of all sources, beside this path
abbrev pub bytes_beside : (path : List ℕ) → MapRecord → ℕ
bytes_beside path stated = sum_by (source_bytes (length path)) stated.sources
