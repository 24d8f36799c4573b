-- What one mapping more adds to a canonical text, and what is kept after it.
use Rattle.std.specs.Prelude.{ℕ, ◌≤◌, List, [], ◌∷◌, ◌++◌, map, Option, Some, None, ℤ, pos, ◌-ℤ◌, unsigned_abs}
use Rattle.std.specs.List.{AllByRecursion, concat}
use Rattle.smap_mappings.specs.Limits.{limit}
use Rattle.smap_mappings.specs.Canonical.{column_before, separators, shortest_spelling}
use Rattle.smap_mappings.specs.declared.mapping.Mapping.{Mapping}
use Rattle.smap_mappings.specs.declared.mapping.Origin.{Origin}
use Rattle.smap_mappings.specs.declared.last_values.LastValues.{LastValues}

-- the fifth field, where there is a name
abbrev pub name_fields_from : LastValues → Option ℕ → List ℤ
name_fields_from last None = []
name_fields_from last (Some name) = (pos name -ℤ pos last.name) ∷ []

-- the fields after the first, each less its value before
abbrev pub origin_fields_from : LastValues → Option Origin → List ℤ
origin_fields_from last None = []
origin_fields_from last (Some origin) =
    (pos origin.source -ℤ pos last.origin.source)
    ∷ (pos origin.line -ℤ pos last.origin.line)
    ∷ (pos origin.column -ℤ pos last.origin.column)
    ∷ name_fields_from last origin.name

-- the fields of a mapping, each less its value before
abbrev pub fields_from : LastValues → Mapping → List ℤ
fields_from last mapping = (pos mapping.column -ℤ pos (column_before last.mapping mapping.line)) ∷ origin_fields_from last mapping.origin

-- fields in their shortest spellings
abbrev pub spelled : List ℤ → List ℕ
spelled fields = concat (map shortest_spelling fields)

-- what one mapping more adds to the text
abbrev pub bytes_from : LastValues → Mapping → List ℕ
bytes_from last mapping = separators last.mapping mapping ++ spelled (fields_from last mapping)

-- the last origin, one mapping on
abbrev pub last_origin_after : Origin → Option Origin → Origin
last_origin_after last None = last
last_origin_after last (Some origin) = origin

-- the name, and where there is none, the last one
abbrev pub named : ℕ → Option ℕ → ℕ
named last None = last
named last (Some name) = name

-- the last name, one mapping on
abbrev pub last_name_after : ℕ → Option Origin → ℕ
last_name_after last None = last
last_name_after last (Some origin) = named last origin.name

-- what is kept after the mapping
abbrev pub last_values_after : LastValues → Mapping → LastValues
last_values_after last mapping = record {
  mapping = Some mapping;
  origin = last_origin_after last.origin mapping.origin;
  name = last_name_after last.name mapping.origin;
}

-- each field can be spelled
abbrev pub CanBeSpelled : List ℤ → Type 0
CanBeSpelled fields = AllByRecursion (λ n. unsigned_abs n ≤ limit) fields
