-- A map without what its mappings don't have (this project's own): the sources and names that no mapping has are left out,
-- and so are, of those that are the same, all but the first that a mapping has. Each mapping keeps its place.
use Rattle.std.specs.Prelude.{◌≡◌, ℕ, ◌==◌, ◌&&◌, Bool, false, List, [], ◌∷◌, ◌++◌, Option, Some, None, filter, map, option_map, option_and_then, slice_get, unwrap_or, if◌then◌else◌}
use Rattle.std.specs.List.{enumerate_from, list_any, position}
use Rattle.std.specs.Option.{option_map_or, option_eq}
use mathlib.Core.Bool.{beq}
use Rattle.std.specs.Str.{bytes_eq}
use Rattle.smap_mappings.specs.declared.mapping.Mapping.{Mapping}
use Rattle.smap_mappings.specs.declared.mapping.Origin.{Origin}
use Rattle.smap_index.specs.Answer.{answer_at_or_before}
use Rattle.smap_index.specs.declared.answer.Answer.{Answer}
use Rattle.smap_index.specs.declared.answer.Answer.TheVariants.{Nothing, Unmapped, Found}
use Rattle.smap_record.specs.Sources.{StatedSource}
use Rattle.smap_record.specs.Written.{text_of_source}
use Rattle.smap_compose.specs.Composition.{Composition}
use Rattle.smap_compose.specs.Follow.{with_origin}

-- ---- entries of a list, some of which are used

-- the entries that are used, which have the places from i on
abbrev pub used_from : {A : Type 0} → (is_used : ℕ → Bool) → (i : ℕ) → List A → List A
used_from is_used i entries = map (λ at. at.1) (filter (λ at. is_used at.0) (enumerate_from i entries))

-- ---- entries of a list, some of which are the same

module _ {A : Type 0} (same : A → A → Bool) where
  -- the entries that are the same as none before them, and as none of these
  abbrev pub first_ones : List A → List A → List A
  first_ones before [] = []
  first_ones before (entry ∷ entries) =
      if list_any (same entry) before then first_ones before entries else entry ∷ first_ones (before ++ entry ∷ []) entries

  -- the entries that stay: of those that are used, each that is the same as none before it
  abbrev pub entries_left : (is_used : ℕ → Bool) → List A → List A
  entries_left is_used entries = first_ones [] (used_from is_used 0 entries)

  -- the place, among those that stay, of the one that is the same as the entry at this place
  abbrev pub place_left : (is_used : ℕ → Bool) → List A → ℕ → ℕ
  place_left is_used entries i =
      option_map_or (λ entry. unwrap_or (position (same entry) (entries_left is_used entries)) 0) (slice_get entries i) 0

-- ---- sources and names

-- the mapping has the source, or the name, at this place
abbrev pub has_source : ℕ → Mapping → Bool
has_source i mapping = option_map_or (λ origin. origin.source == i) mapping.origin false

abbrev pub has_name : ℕ → Mapping → Bool
has_name i mapping = option_map_or (λ origin. option_map_or (λ name. name == i) origin.name false) mapping.origin false

abbrev pub is_source_used : List Mapping → ℕ → Bool
is_source_used mappings i = list_any (has_source i) mappings

abbrev pub is_name_used : List Mapping → ℕ → Bool
is_name_used mappings i = list_any (has_name i) mappings

-- a source by the text of its name, its content and its mark
pub record NamedSource : Type 0 where
  pub text : Option (List ℕ)
  pub content : Option (List ℕ)
  pub ignored : Bool

abbrev pub named_source : StatedSource → NamedSource
named_source source = record { text = text_of_source source; content = source.content; ignored = source.ignored }

abbrev pub is_same_named : NamedSource → NamedSource → Bool
is_same_named a b = option_eq bytes_eq a.text b.text && option_eq bytes_eq a.content b.content && beq a.ignored b.ignored

-- two sources are the same: in the text of their name, in content and in mark
abbrev pub is_same_source : StatedSource → StatedSource → Bool
is_same_source a b = is_same_named (named_source a) (named_source b)

abbrev pub sources_left : Composition → List StatedSource
sources_left whole = entries_left is_same_source (is_source_used whole.mappings) whole.sources

abbrev pub names_left : Composition → List (List ℕ)
names_left whole = entries_left bytes_eq (is_name_used whole.mappings) whole.names

-- ---- the map

-- an origin, with the places of its source and its name among those that stay
abbrev pub pruned_origin : Composition → Origin → Origin
pruned_origin whole origin = record origin {
  source = place_left is_same_source (is_source_used whole.mappings) whole.sources origin.source;
  name = option_map (place_left bytes_eq (is_name_used whole.mappings) whole.names) origin.name;
}

abbrev pub pruned : Composition → Composition
pruned whole = record {
  mappings = map (with_origin (λ origin. Some (pruned_origin whole origin))) whole.mappings;
  sources = sources_left whole;
  names = names_left whole;
  file = whole.file;
}

-- ---- what a look-up reports a map

-- an origin by what its indices stand for
pub record NamedOrigin : Type 0 where
  pub source : Option NamedSource
  pub line : ℕ
  pub column : ℕ
  pub name : Option (List ℕ)

abbrev pub named_origin : Composition → Origin → NamedOrigin
named_origin whole origin = record {
  source = option_map named_source (slice_get whole.sources origin.source);
  line = origin.line;
  column = origin.column;
  name = option_and_then (slice_get whole.names) origin.name;
}

-- where a mapping answers, the column at which it begins and, where it has one, its origin
abbrev pub named_answer : Composition → Answer → Option (ℕ × Option NamedOrigin)
named_answer whole Nothing = None
named_answer whole (Unmapped column) = Some (column, None)
named_answer whole (Found column origin) = Some (column, Some (named_origin whole origin))

-- at each position this map says the same as the other
abbrev pub AnswersAlike : (whole composed : Composition) → Type 0
AnswersAlike whole composed =
    (line column : ℕ) → named_answer composed (answer_at_or_before composed.mappings line column)
    ≡ named_answer whole (answer_at_or_before whole.mappings line column)
