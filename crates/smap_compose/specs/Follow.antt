-- Composing two maps (this project's own; ECMA-426 has no composition): the outer map's mappings to one of its sources
-- are followed through the map of that source. Lines, columns and indices count from 0.
use Rattle.std.specs.Prelude.{ℕ, ◌+◌, List, Option, Some, None, ◌==◌, if◌then◌else◌, map, option_map, option_and_then}
use Rattle.std.specs.Option.{option_or}
use Rattle.smap_mappings.specs.declared.mapping.Mapping.{Mapping}
use Rattle.smap_mappings.specs.declared.mapping.Origin.{Origin}
use Rattle.smap_index.specs.Answer.{answer_with, answer_at_or_before}
use Rattle.smap_index.specs.declared.answer.Answer.{Answer}
use Rattle.smap_index.specs.declared.answer.Answer.TheVariants.{Nothing, Unmapped, Found}

-- a list of mappings, and how many sources and names their indices stand for
pub record CountedMappings : Type 0 where
  pub mappings : List Mapping
  pub sources : ℕ
  pub names : ℕ

-- ---- another origin for each mapping

-- a mapping with what becomes of its origin, at its generated place; without an origin, it stays
abbrev pub with_origin : (Origin → Option Origin) → Mapping → Mapping
with_origin origin_of mapping = record mapping { origin = option_and_then origin_of mapping.origin }

-- an answer with what becomes of its origin
abbrev pub answer_with_origin : (Origin → Option Origin) → Answer → Answer
answer_with_origin origin_of Nothing = Nothing
answer_with_origin origin_of (Unmapped column) = Unmapped column
answer_with_origin origin_of (Found column origin) = answer_with column (origin_of origin)

-- ---- an origin that is looked up in an inner list

-- an origin of the inner list, its indices after as many sources and names; where it has no name, it gets that of the outer
-- mapping
abbrev pub moved_origin : (sources names : ℕ) → Option ℕ → Origin → Origin
moved_origin sources names outer_name origin = record origin {
  source = sources + origin.source;
  name = option_or (option_map (λ name. names + name) origin.name) outer_name;
}

-- the origin that comes of an answer of the inner list: none, where it has none
abbrev pub origin_of_answer : (sources names : ℕ) → Option ℕ → Answer → Option Origin
origin_of_answer sources names outer_name Nothing = None
origin_of_answer sources names outer_name (Unmapped column) = None
origin_of_answer sources names outer_name (Found column origin) = Some (moved_origin sources names outer_name origin)

-- ---- one source

-- what becomes of an origin of the outer list: where it is of this source, its line and column are looked up in the
-- inner list; of another source, it stays
abbrev pub followed_origin : CountedMappings → ℕ → CountedMappings → Origin → Option Origin
followed_origin outer source inner origin =
    if origin.source == source
    then origin_of_answer outer.sources outer.names origin.name (answer_at_or_before inner.mappings origin.line origin.column)
    else Some origin

-- a mapping of the outer list, followed
abbrev pub follow : CountedMappings → ℕ → CountedMappings → Mapping → Mapping
follow outer source inner = with_origin (followed_origin outer source inner)

-- the outer list, each mapping followed; the inner list's sources and names stand after the outer list's
abbrev pub followed : CountedMappings → ℕ → CountedMappings → CountedMappings
followed outer source inner = record {
  mappings = map (follow outer source inner) outer.mappings;
  sources = outer.sources + inner.sources;
  names = outer.names + inner.names;
}

-- what becomes of an answer of the outer list
abbrev pub followed_answer : CountedMappings → ℕ → CountedMappings → Answer → Answer
followed_answer outer source inner = answer_with_origin (followed_origin outer source inner)
