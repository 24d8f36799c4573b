-- What a written map gives when it is read again.
use Rattle.std.specs.Prelude.{◌≡◌, ◌≤◌, ℕ, List, Option, None, true, length, map, Ok}
use Rattle.smap_mappings.specs.Accepted.{IsAccepted}
use Rattle.smap_mappings.specs.Limits.{most_text_bytes}
use Rattle.smap_mappings.specs.declared.mapping.Mapping.{Mapping}
use Rattle.smap_index.specs.Faults.{is_interval}
use Rattle.smap_index.specs.Parts.{joined}
use Rattle.smap_record.specs.Limits.{most_listed}
use Rattle.smap_record.specs.Record.{MapRecord, record_of}
use Rattle.smap_record.specs.Sources.{StatedSource}
use Rattle.smap_record.specs.Written.{content_of_source, is_ignored_source}

-- a regular map may have this many sources, this many names and this text
pub record IsRegularMap (sources names : ℕ) (text : List ℕ) : Type 0 where
  pub few_sources : sources ≤ most_listed
  pub few_names : names ≤ most_listed
  pub short : length text ≤ most_text_bytes
  pub accepted : IsAccepted text sources names

-- a record has these mappings, and as many sources as these, with their contents and their marks of being ignored, and
-- these names and this generated file. The names of its sources may be others, since they are resolved again
pub record IsReadBackOf (mappings : List Mapping) (sources : List StatedSource) (names : List (List ℕ)) (file : Option (List ℕ))
    (read : MapRecord) : Type 0 where
  pub list : joined read.parts ≡ mappings
  pub many : length read.sources ≡ length sources
  pub contents : map content_of_source read.sources ≡ map content_of_source sources
  pub ignored : map is_ignored_source read.sources ≡ map is_ignored_source sources
  pub names_are : read.names ≡ names
  pub file_is : read.file ≡ file

-- the bytes, which stand at no URL, give such a record at each interval at which checkpoints may stand
abbrev pub ReadsBackAs : List ℕ → List Mapping → List StatedSource → List (List ℕ) → Option (List ℕ) → Type 0
ReadsBackAs bytes mappings sources names file =
    (k : ℕ) → is_interval k ≡ true → (read : MapRecord) × (record_of bytes None k ≡ Ok read) × IsReadBackOf mappings sources names file read
