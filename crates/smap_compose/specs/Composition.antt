-- What composing maps gives, and why it is refused, which is this project's own. The sources of all maps stand side by side,
-- and so do their names: none is merged, and the sources that are followed stay listed.
use Rattle.std.specs.Prelude.{ℕ, ◌+◌, List, [], ◌∷◌, ◌++◌, Option, Some, None, Result, Bool, ◌||◌, nat_le, nat_lt, if◌then◌else◌, flat_map, length, map, option_map}
use Rattle.std.specs.Option.{option_or}
use Rattle.smap_mappings.specs.Encode.{is_text_too_long}
use Rattle.smap_mappings.specs.declared.mapping.Mapping.{Mapping}
use Rattle.smap_index.specs.Parts.{joined}
use Rattle.smap_record.specs.Limits.{most_listed}
use Rattle.smap_record.specs.Record.{MapRecord}
use Rattle.smap_record.specs.Refusals.{unless}
use Rattle.smap_record.specs.Sources.{StatedSource}
use Rattle.smap_compose.specs.Follow.{CountedMappings, followed}
use Rattle.smap_compose.specs.FollowAll.{followed_all}
use Rattle.smap_resolve.specs.InnerNames.{name_from_outer}
use Rattle.smap_resolve.specs.SourceName.{Name}
use Rattle.smap_compose.specs.declared.refusal.ComposeRefusal.{ComposeRefusal}
use Rattle.smap_compose.specs.declared.refusal.ComposeRefusal.TheVariants.{SourceIndex, TooLarge}

-- the mappings of a map, and how many sources and names it has
abbrev pub mappings_of_map : MapRecord → CountedMappings
mappings_of_map stated = record { mappings = joined stated.parts; sources = length stated.sources; names = length stated.names }

-- what callers see of a composed map
pub record Composition : Type 0 where
  pub mappings : List Mapping
  pub sources : List StatedSource
  pub names : List (List ℕ)
  pub file : Option (List ℕ)

-- the mappings of the first map, followed through the second where they are of this source of the first
abbrev pub followed_mappings : MapRecord → ℕ → MapRecord → List Mapping
followed_mappings outer source inner = (followed (mappings_of_map outer) source (mappings_of_map inner)).mappings

-- these mappings, with the sources and names of both maps; it is a map of the file that the first map is of
abbrev pub composition : MapRecord → ℕ → MapRecord → Composition
composition outer source inner = record {
  mappings = followed_mappings outer source inner;
  sources = outer.sources ++ inner.sources;
  names = outer.names ++ inner.names;
  file = outer.file;
}

-- ---- refusals

-- how many sources two maps have together
abbrev pub sources_together : MapRecord → MapRecord → ℕ
sources_together outer inner = length outer.sources + length inner.sources

-- how many names
abbrev pub names_together : MapRecord → MapRecord → ℕ
names_together outer inner = length outer.names + length inner.names

-- the two maps have more sources together than a map lists, or more names
abbrev pub lists_too_many : MapRecord → MapRecord → Bool
lists_too_many outer inner = nat_lt most_listed (sources_together outer inner) || nat_lt most_listed (names_together outer inner)

-- the refusal that the numbers of sources and names decide, if there is one
abbrev pub count_refusal : MapRecord → ℕ → MapRecord → Option ComposeRefusal
count_refusal outer source inner =
    if nat_le (length outer.sources) source then Some SourceIndex
    else (if lists_too_many outer inner then Some TooLarge else None)

-- the first refusal, if there is one: the canonical text of the composed mappings may be too long
abbrev pub compose_refusal : MapRecord → ℕ → MapRecord → Option ComposeRefusal
compose_refusal outer source inner =
    option_or (count_refusal outer source inner)
    (if is_text_too_long (followed_mappings outer source inner) then Some TooLarge else None)

-- what two maps compose to, or why they do not
abbrev pub composed_of : MapRecord → ℕ → MapRecord → Result Composition ComposeRefusal
composed_of outer source inner = unless (compose_refusal outer source inner) (composition outer source inner)

-- ---- all inner maps at once, source by source of the outer map: some of its sources have none

-- the mappings of the inner maps
abbrev pub inner_lists : List (Option MapRecord) → List (Option CountedMappings)
inner_lists inners = map (option_map mappings_of_map) inners

abbrev pub all_followed : MapRecord → List (Option MapRecord) → CountedMappings
all_followed outer inners = followed_all (mappings_of_map outer) (inner_lists inners)

-- a source of the inner map
abbrev pub source_from : Option Name → StatedSource → StatedSource
source_from outer source = record source { name = option_map (name_from_outer outer) source.name }

-- the sources of the inner map of a source, where it has one, as they are called by it
abbrev pub sources_below : StatedSource → Option MapRecord → List StatedSource
sources_below source None = []
sources_below source (Some inner) = map (source_from source.name) inner.sources

-- those of the inner maps of all these sources
abbrev pub sources_within : List StatedSource → List (Option MapRecord) → List StatedSource
sources_within [] inners = []
sources_within (source ∷ sources) [] = []
sources_within (source ∷ sources) (inner ∷ inners) = sources_below source inner ++ sources_within sources inners

abbrev pub names_within : Option MapRecord → List (List ℕ)
names_within None = []
names_within (Some inner) = inner.names

-- the outer map's mappings, followed through all inner maps, with the sources and names of all; it is a map of the file that
-- the outer map is of
abbrev pub composition_of_all : MapRecord → List (Option MapRecord) → Composition
composition_of_all outer inners = record {
  mappings = (all_followed outer inners).mappings;
  sources = outer.sources ++ sources_within outer.sources inners;
  names = outer.names ++ flat_map names_within inners;
  file = outer.file;
}

-- the maps have more sources together than a map lists, or more names
abbrev pub all_list_too_many : MapRecord → List (Option MapRecord) → Bool
all_list_too_many outer inners =
    nat_lt most_listed (all_followed outer inners).sources || nat_lt most_listed (all_followed outer inners).names

-- the refusal that the numbers of sources and names decide, if there is one
abbrev pub count_refusal_of_all : MapRecord → List (Option MapRecord) → Option ComposeRefusal
count_refusal_of_all outer inners = if all_list_too_many outer inners then Some TooLarge else None

-- a composed map, where its canonical text is not too long
abbrev pub unless_too_long : Composition → Result Composition ComposeRefusal
unless_too_long whole = unless (if is_text_too_long whole.mappings then Some TooLarge else None) whole

-- what a map and the inner maps of its sources compose to, or why they do not
abbrev pub all_composed : MapRecord → List (Option MapRecord) → Result Composition ComposeRefusal
all_composed outer inners =
    unless
    (option_or (count_refusal_of_all outer inners) (if is_text_too_long (all_followed outer inners).mappings then Some TooLarge else None))
    (composition_of_all outer inners)

-- ---- less of a composed map

abbrev pub without_content : StatedSource → StatedSource
without_content source = record source { content = None }

-- without the contents of its sources
abbrev pub without_contents : Composition → Composition
without_contents whole = record whole { sources = map without_content whole.sources }
