-- All mappings of a map as bytes: eight numbers a mapping, each a little-endian word of four bytes.
use Rattle.std.specs.Prelude.{ℕ, List, [], ◌∷◌, Option, None, Some}
use Rattle.std.specs.Int.{to_le_bytes, w32}
use Rattle.std.specs.List.{flat_map}
use Rattle.smap_mappings.specs.declared.mapping.Mapping.{Mapping}
use Rattle.smap_mappings.specs.declared.mapping.Origin.{Origin}
use Rattle.smap_c.specs.Look.{flag_of, number_or_0}

-- the kind of a mapping, 1 without an original and 2 with one, and the original with its name
abbrev pub origin_words : Option Origin → List ℕ
origin_words None = 1 ∷ 0 ∷ 0 ∷ 0 ∷ 0 ∷ 0 ∷ []
origin_words (Some origin) =
    2 ∷ origin.source ∷ origin.line ∷ origin.column ∷ flag_of origin.name ∷ number_or_0 origin.name ∷ []

-- its line and its column in the generated file, its kind and its original
abbrev pub mapping_words : Mapping → List ℕ
mapping_words mapping = mapping.line ∷ mapping.column ∷ origin_words mapping.origin

-- these numbers as words
abbrev pub word_bytes : List ℕ → List ℕ
word_bytes words = flat_map (to_le_bytes w32) words

-- those of the mappings, one after another
abbrev pub mapping_bytes : List Mapping → List ℕ
mapping_bytes mappings = flat_map (λ mapping. word_bytes (mapping_words mapping)) mappings
