-- How much of a generated text each source makes, and how many segments of a map each has.
use Rattle.std.specs.Prelude.{◌≡◌, ℕ, ◌<◌, ◌+◌, Bool, List, Option, Some, None, length, sum, count_by, slice_index}
use Rattle.std.specs.Str.{chars}
use Rattle.smap_mappings.specs.declared.mapping.Mapping.{Mapping}
use Rattle.smap_mappings.specs.declared.mapping.Origin.{Origin}
use Rattle.smap_fit.specs.Lines.{code_of, mark_bytes}
use Rattle.smap_fit.specs.Owners.{is_same_owner, owned_bytes}

-- the source that a mapping has
abbrev pub source_with : Option Origin → Option ℕ
source_with None = None
source_with (Some origin) = Some origin.source

abbrev pub source_of : Mapping → Option ℕ
source_of mapping = source_with mapping.origin

-- the mapping's origin has this source
abbrev pub has_source : ℕ → Mapping → Bool
has_source source mapping = is_same_owner (source_of mapping) (Some source)

-- so many mappings have each of so many sources
pub record IsSegmentsBySource (sources : ℕ) (mappings : List Mapping) (counts : List ℕ) : Type 0 where
  pub all : length counts ≡ sources
  pub each : (source : ℕ) → source < sources → slice_index counts source ≡ count_by (has_source source) mappings

-- the bytes of a text that come from a source by these mappings: line 0, column 0 is where its code begins
abbrev pub source_bytes : List Mapping → (text : List ℕ) (source : ℕ) → ℕ
source_bytes mappings text source = owned_bytes (Some source) mappings 0 0 (code_of (chars text))

-- and those that come from none, as those of a byte order mark at the start
abbrev pub unmapped_bytes : List Mapping → (text : List ℕ) → ℕ
unmapped_bytes mappings text = mark_bytes (chars text) + owned_bytes None mappings 0 0 (code_of (chars text))

-- so many bytes of a text come from each of so many sources, and so many from none: together they are the text's
pub record IsBytesBySource (sources : ℕ) (mappings : List Mapping) (text : List ℕ) (counts : List ℕ) (unmapped : ℕ) : Type 0 where
  pub all : length counts ≡ sources
  pub each : (source : ℕ) → source < sources → slice_index counts source ≡ source_bytes mappings text source
  pub none : unmapped ≡ unmapped_bytes mappings text
  pub total : sum counts + unmapped ≡ length text
