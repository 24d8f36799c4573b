-- What the bytes of a map file give (ECMA-426, Source map format): the first refusal, or the record of the map. This
-- project's own are: that each fault refuses the whole file, the order of the refusals, the limits, and that a key at
-- null counts as absent.
use Rattle.std.specs.Prelude.{ℕ, List, None, Option, nat_lt, if◌then◌else◌, length, flat_map, ok_or, option_map, Result, Ok, Err}
use Rattle.serde_json.specs.Data.{Members, object}
use Rattle.serde_json.specs.Find.{as_object}
use Rattle.url.specs.Parts.{Parts}
use Rattle.smap_index.specs.Answer.{answer_at_or_before, answer_at_or_after}
use Rattle.smap_index.specs.Faults.{build_fault}
use Rattle.smap_index.specs.Parts.{joined}
use Rattle.smap_index.specs.declared.answer.Answer.{Answer}
use Rattle.smap_index.specs.declared.part.Part.{Part}
use Rattle.smap_record.specs.FileText.{value_of_file}
use Rattle.smap_record.specs.IndexMap.{no_sections, sections_after}
use Rattle.smap_record.specs.Limits.{most_file_bytes}
use Rattle.smap_record.specs.NameBytes.{name_bytes, names_refusal}
use Rattle.smap_record.specs.Outer.{outer_in}
use Rattle.smap_record.specs.Refusals.{◌>>=◌, unless}
use Rattle.smap_record.specs.Sources.{StatedSource, sources_stated}
use Rattle.smap_record.specs.declared.refusal.MapRefusal.{MapRefusal}
use Rattle.smap_record.specs.declared.refusal.MapRefusal.TheVariants.{TooLarge, NotJson, NotObject, Build}

-- what a map file states
pub record MapRecord : Type 0 where
  pub parts : List Part
  pub sources : List StatedSource
  pub names : List (List ℕ)
  pub file : Option (List ℕ)

-- the members of the object that a file of these bytes is
abbrev pub members_in : List ℕ → Result Members MapRefusal
members_in bytes = do
  value ← if nat_lt most_file_bytes (length bytes) then Err TooLarge else ok_or (value_of_file bytes) NotJson
  ok_or (as_object value) NotObject

-- these parts, where an index is built of them
abbrev pub indexed : List Part → ℕ → Result (List Part) MapRefusal
indexed parts k = unless (option_map Build (build_fault parts k)) parts

-- what a map with these members states, which stands at this URL: its sections' entries, joined in order; where there is a
-- bound, it is refused after all else if the names of its sources are made of more bytes
unfoldable pub record_within : (most : Option ℕ) → Members → Option Parts → ℕ → Result MapRecord MapRefusal
record_within most members base k = do
  outer ← outer_in (object members)
  sections ← sections_after no_sections outer.entries
  parts ← indexed sections.parts k
  named ← unless (names_refusal most (name_bytes base sections.sources)) sections.sources
  Ok (record {
    parts = parts;
    sources = flat_map (sources_stated base) named;
    names = sections.names;
    file = outer.file;
  })

-- the record of a file's bytes, which stand at this URL, at an interval k and within a bound on names, if there is one; or
-- the first refusal
unfoldable pub record_of_within : (most : Option ℕ) (bytes : List ℕ) (base : Option Parts) (k : ℕ) → Result MapRecord MapRefusal
record_of_within most bytes base k = members_in bytes >>= λ members. record_within most members base k

-- the same without a bound
abbrev pub record_in : Members → Option Parts → ℕ → Result MapRecord MapRefusal
record_in = record_within None

abbrev pub record_of : (bytes : List ℕ) (base : Option Parts) (k : ℕ) → Result MapRecord MapRefusal
record_of = record_of_within None

-- what a map answers at a generated position
abbrev pub answer_of_map : MapRecord → ℕ → ℕ → Answer
answer_of_map stated line column = answer_at_or_before (joined stated.parts) line column

-- and in the other direction, at the position or after it
abbrev pub answer_of_map_from : MapRecord → ℕ → ℕ → Answer
answer_of_map_from stated line column = answer_at_or_after (joined stated.parts) line column

-- the parts of the index of a map with these members, before it is asked whether an index is built of them
abbrev pub parts_in : Members → Result (List Part) MapRefusal
parts_in members = do
  outer ← outer_in (object members)
  sections ← sections_after no_sections outer.entries
  Ok sections.parts

-- those of the map in a file of these bytes
unfoldable pub parts_of : List ℕ → Result (List Part) MapRefusal
parts_of bytes = members_in bytes >>= parts_in
