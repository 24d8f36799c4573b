-- How many bytes the names of a map's sources are made of, and a bound on them, which is this project's own. A `sourceRoot`
-- stands before each source of its section, and the base before each of the map, so these may be many more than the file has.
use Rattle.std.specs.Prelude.{ℕ, ◌+◌, List, Option, None, Some, nat_lt, if◌then◌else◌, length}
use Rattle.std.specs.List.{sum_by}
use Rattle.url.specs.Parts.{Parts, serialize}
use Rattle.smap_resolve.specs.SourceName.{root_prefix}
use Rattle.smap_record.specs.Sources.{StatedSources}
use Rattle.smap_record.specs.declared.refusal.MapRefusal.{MapRefusal}
use Rattle.smap_record.specs.declared.refusal.MapRefusal.TheVariants.{LongNames}

-- those of the base
abbrev pub base_bytes : Option Parts → ℕ
base_bytes None = 0
base_bytes (Some base) = length (serialize base)

-- those of a source with this text, before which so many stand; one without a text has no name
abbrev pub text_bytes : (before : ℕ) → Option (List ℕ) → ℕ
text_bytes before None = 0
text_bytes before (Some text) = before + length text

-- those of the sources that a section states, where so many stand before what it puts before each
abbrev pub section_name_bytes : (before : ℕ) → StatedSources → ℕ
section_name_bytes before stated = sum_by (text_bytes (before + length (root_prefix stated.root))) stated.texts

-- those of the sources of all sections
abbrev pub name_bytes : Option Parts → List StatedSources → ℕ
name_bytes base sections = sum_by (section_name_bytes (base_bytes base)) sections

-- that they are more than so many, where there is a bound
abbrev pub long_names : (most count : ℕ) → Option MapRefusal
long_names most count = if nat_lt most count then Some LongNames else None

abbrev pub names_refusal : (most : Option ℕ) (count : ℕ) → Option MapRefusal
names_refusal None count = None
names_refusal (Some most) count = long_names most count
