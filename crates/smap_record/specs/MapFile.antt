-- What callers see of a map file.
use Rattle.std.specs.Prelude.{◌≡◌, ◌⊎◌, ◌≤◌, ℕ, length, map, option_map, string_bytes, Result, Ok, Err}
use Rattle.std.specs.List.{All}
use Rattle.std.specs.Result.{IsOkAnd}
use Rattle.smap_mappings.specs.Within.{IsOriginWithin, IsWithin}
use Rattle.smap_index.specs.Parts.{joined}
use Rattle.smap_index.specs.declared.answer.Answer.{Answer}
use Rattle.smap_index.specs.declared.answer.Answer.TheVariants.{Nothing, Unmapped, Found}
use Rattle.smap_record.specs.Limits.{most_listed}
use Rattle.smap_record.specs.Record.{MapRecord}
use Rattle.smap_record.specs.Sources.{source_of, NamesASource}
use Rattle.smap_record.specs.declared.map_file.MapFile.TheInside.{Inside}
use Rattle.smap_record.specs.declared.refusal.MapRefusal.{MapRefusal}
use Rattle.smap_record.specs.declared.refusal.MapRefusal.TheVariants.{Memory, Url}

-- what it states, and the interval of its checkpoints
pub record Map : Type 0 where
  pub stated : MapRecord
  pub k : ℕ

-- what its fields stand for
abbrev pub map_seen : Inside → Map
map_seen inside = record {
  stated = record {
    parts = inside.index.parts;
    sources = map source_of inside.sources.items;
    names = map string_bytes inside.names.items;
    file = option_map string_bytes inside.file;
  };
  k = inside.index.k;
}

-- its sections are the parts of its index, it lists no more sources and names than a map may, and its mappings keep to
-- the limit and to its sources and names
pub record IsCounted (inside : Inside) : Type 0 where
  pub sections : inside.sections ≡ length inside.index.parts
  pub few_sources : length inside.sources.items ≤ most_listed
  pub few_names : length inside.names.items ≤ most_listed
  pub within : All (IsWithin (length inside.sources.items) (length inside.names.items)) (joined inside.index.parts)

-- ---- reading

-- a map that was read, of a file that gives this: it states that, and its checkpoints stand at the interval k
abbrev pub IsMapOf : Result MapRecord MapRefusal → (k : ℕ) → Map → Type 0
IsMapOf given k map = (given ≡ Ok map.stated) × (map.k ≡ k)

-- why none was read: memory ran out, or the file gives this refusal; or it gives a record in which a source has a name,
-- whose URL is too long
abbrev pub IsRefusalOf : Result MapRecord MapRefusal → MapRefusal → Type 0
IsRefusalOf given refusal =
    (refusal ≡ Memory)
    ⊎ ((refusal ≡ Url) × IsOkAnd given (λ (stated : MapRecord). NamesASource stated.sources))
    ⊎ (given ≡ Err refusal)

-- ---- answers

-- the origin that an answer gives, where it gives one, names one of these many sources and names
unfoldable pub IsAnswerWithin : ℕ → ℕ → Answer → Type 0
IsAnswerWithin sources names Nothing = Unit {0}
IsAnswerWithin sources names (Unmapped column) = Unit {0}
IsAnswerWithin sources names (Found column origin) = IsOriginWithin sources names origin
