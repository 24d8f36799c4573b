-- Composing a map with those of several of its sources at once (this project's own): each mapping of the outer map whose
-- source has an inner map is followed through that one. Lines, columns and indices count from 0.
use Rattle.std.specs.Prelude.{ℕ, ◌+◌, List, [], ◌∷◌, Option, Some, None, map, slice_get}
use Rattle.std.specs.List.{sum_by}
use Rattle.std.specs.Option.{option_flatten}
use Rattle.smap_mappings.specs.declared.mapping.Mapping.{Mapping}
use Rattle.smap_mappings.specs.declared.mapping.Origin.{Origin}
use Rattle.smap_index.specs.Answer.{answer_at_or_before}
use Rattle.smap_index.specs.declared.answer.Answer.{Answer}
use Rattle.smap_compose.specs.Follow.{CountedMappings, answer_with_origin, followed, origin_of_answer, with_origin}

-- ---- the inner lists, source by source of the outer list: some of them have none

abbrev pub inner_sources : Option CountedMappings → ℕ
inner_sources None = 0
inner_sources (Some inner) = inner.sources

abbrev pub inner_names : Option CountedMappings → ℕ
inner_names None = 0
inner_names (Some inner) = inner.names

-- an inner list, and how many sources and names stand before its own
pub record Placed : Type 0 where
  pub mappings : List Mapping
  pub sources_before : ℕ
  pub names_before : ℕ

-- inner lists, the sources and names of each after as many and after those of the lists before it
abbrev pub placed : (sources names : ℕ) → List (Option CountedMappings) → List (Option Placed)
placed sources names [] = []
placed sources names (None ∷ inners) = None ∷ placed sources names inners
placed sources names (Some inner ∷ inners) =
    Some (record { mappings = inner.mappings; sources_before = sources; names_before = names })
    ∷ placed (sources + inner.sources) (names + inner.names) inners

-- ---- all at once

-- what becomes of an origin whose source has this inner list, or none
abbrev pub origin_through : Option Placed → Origin → Option Origin
origin_through None origin = Some origin
origin_through (Some inner) origin =
    origin_of_answer inner.sources_before inner.names_before origin.name (answer_at_or_before inner.mappings origin.line origin.column)

-- what becomes of an origin, by the inner list of its source
abbrev pub origin_through_all : List (Option Placed) → Origin → Option Origin
origin_through_all inners origin = origin_through (option_flatten (slice_get inners origin.source)) origin

-- the inner lists, placed after the outer list
abbrev pub placed_after : CountedMappings → List (Option CountedMappings) → List (Option Placed)
placed_after outer inners = placed outer.sources outer.names inners

-- the outer list, each mapping followed; the sources and names of the inner lists stand after its own, in their order
abbrev pub followed_all : CountedMappings → List (Option CountedMappings) → CountedMappings
followed_all outer inners = record {
  mappings = map (with_origin (origin_through_all (placed_after outer inners))) outer.mappings;
  sources = outer.sources + sum_by inner_sources inners;
  names = outer.names + sum_by inner_names inners;
}

-- what becomes of an answer of the outer list
abbrev pub followed_answer_all : CountedMappings → List (Option CountedMappings) → Answer → Answer
followed_answer_all outer inners = answer_with_origin (origin_through_all (placed_after outer inners))

-- ---- one after another

-- the outer list, followed through each of the inner lists of the sources from this one on, one after another
abbrev pub followed_in_turn : CountedMappings → (source : ℕ) → List (Option CountedMappings) → CountedMappings
followed_in_turn outer source [] = outer
followed_in_turn outer source (None ∷ inners) = followed_in_turn outer (source + 1) inners
followed_in_turn outer source (Some inner ∷ inners) = followed_in_turn (followed outer source inner) (source + 1) inners
