-- The sources of a section (ECMA-426, Source map format and Resolving sources), as contracts compare them.
use Rattle.std.specs.Prelude.{◌≡◌, ℕ, zero, suc, List, [], ◌∷◌, Option, Some, Bool, true, false, is_some, map, option_map, slice_get, string_bytes, unwrap_or}
use Rattle.std.specs.List.{enumerate_from, list_any}
use Rattle.std.specs.Option.{option_flatten}
use Rattle.url.specs.Parts.{Parts}
use Rattle.smap_resolve.specs.SourceName.{Name, name_of, source_name}
use Rattle.smap_record.specs.declared.entry.SourceEntry.{SourceEntry}

-- what a map states of a source: its name, its content, and whether it is to be ignored
pub record StatedSource : Type 0 where
  pub name : Option Name
  pub content : Option (List ℕ)
  pub ignored : Bool

-- what a `SourceEntry` is
abbrev pub source_of : SourceEntry → StatedSource
source_of entry = record { name = option_map name_of entry.name; content = option_map string_bytes entry.content; ignored = entry.ignored }

-- what a section states of its sources: the `sourceRoot` of all, and by place the text of each, its content, and whether
-- it is to be ignored
pub record StatedSources : Type 0 where
  pub root : Option (List ℕ)
  pub texts : List (Option (List ℕ))
  pub contents : List (Option (List ℕ))
  pub ignored : List Bool

-- source i, from 0, with this text, of a map that stands at this URL
abbrev pub source_at : Option Parts → StatedSources → ℕ → Option (List ℕ) → StatedSource
source_at base stated i text = record {
  name = option_map (λ t. source_name stated.root t base) text;
  content = option_flatten (slice_get stated.contents i);
  ignored = unwrap_or (slice_get stated.ignored i) false;
}

-- the sources with these texts
abbrev pub sources_with : Option Parts → StatedSources → List (Option (List ℕ)) → List StatedSource
sources_with base stated texts = map (λ at. source_at base stated at.0 at.1) (enumerate_from 0 texts)

-- the sources that a section states, of a map that stands at this URL
abbrev pub sources_stated : Option Parts → StatedSources → List StatedSource
sources_stated base stated = sources_with base stated stated.texts

-- one of these sources has a name
abbrev pub NamesASource : List StatedSource → Type 0
NamesASource sources = list_any (λ (source : StatedSource). is_some source.name) sources ≡ true

-- a source with another name
abbrev pub with_name : Name → StatedSource → StatedSource
with_name name source = record { name = Some name; content = source.content; ignored = source.ignored }

-- the same sources, of which that of number i, from 0, has another name, where there is one
unfoldable pub with_name_at : List StatedSource → (i : ℕ) → Name → List StatedSource
with_name_at [] i name = []
with_name_at (source ∷ rest) zero name = with_name name source ∷ rest
with_name_at (source ∷ rest) (suc i) name = source ∷ with_name_at rest i name
