-- The places of each source while they are gathered.
use Rattle.std.specs.Prelude.{List, [], ◌∷◌, ◌++◌, Option, None, Some, slice_set}
use Rattle.smap_mappings.specs.declared.mapping.Mapping.{Mapping}
use Rattle.smap_mappings.specs.declared.mapping.Origin.{Origin}
use Rattle.smap_originals.specs.Originals.{of_source, place_of}
use Rattle.smap_originals.specs.declared.place.GeneratedPlace.{GeneratedPlace}

-- a place more for the source of its original, if it has one
abbrev pub added_to : List (List GeneratedPlace) → GeneratedPlace → Option Origin → List (List GeneratedPlace)
added_to gathered place None = gathered
added_to gathered place (Some origin) = slice_set gathered origin.source (of_source gathered origin.source ++ place ∷ [])

-- that of a mapping
abbrev pub added : List (List GeneratedPlace) → Mapping → List (List GeneratedPlace)
added gathered mapping = added_to gathered (place_of mapping) mapping.origin
