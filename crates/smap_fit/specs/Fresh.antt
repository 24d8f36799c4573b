-- Which mappings say something new. Some tools write a mapping for each character of a piece that stays as it is; where
-- these stand in the text says no more than where the first of them does.
use Rattle.std.specs.Prelude.{ℕ, ◌+◌, ◌==◌, ◌&&◌, Bool, false, List, [], ◌∷◌, Option, None, Some, if◌then◌else◌}
use Rattle.smap_mappings.specs.declared.mapping.Mapping.{Mapping}
use Rattle.smap_mappings.specs.declared.mapping.Origin.{Origin}

-- the second origin is on the same line of the same source, as many columns behind the first as the second generated column
-- is behind the first
abbrev pub is_as_far : (column column_2 : ℕ) → (origin origin_2 : Option Origin) → Bool
is_as_far column column_2 None origin_2 = false
is_as_far column column_2 (Some a) None = false
is_as_far column column_2 (Some a) (Some b) = a.source == b.source && a.line == b.line && b.column + column == a.column + column_2

-- the second mapping continues the first: it stands on its line, and is as far behind it as its origin is behind its origin
abbrev pub continues : Mapping → Mapping → Bool
continues a b = a.line == b.line && is_as_far a.column b.column a.origin b.origin

-- the mapping continues this one, where there is one
abbrev pub continues_last : Option Mapping → Mapping → Bool
continues_last None mapping = false
continues_last (Some last) mapping = continues last mapping

-- those that do not continue the one before them, this one being before the first
abbrev pub fresh_behind : Option Mapping → List Mapping → List Mapping
fresh_behind last [] = []
fresh_behind last (mapping ∷ mappings) =
    if continues_last last mapping then fresh_behind (Some mapping) mappings else mapping ∷ fresh_behind (Some mapping) mappings

abbrev pub fresh : List Mapping → List Mapping
fresh mappings = fresh_behind None mappings
