-- The order of mappings (ECMA-426, Mappings structure): by generated line, then by generated column. Equal positions
-- may stand side by side.
use Rattle.std.specs.Prelude.{◌≡◌, ◌<◌, ◌≤◌, ◌⊎◌, List, [], ◌∷◌}
use Rattle.smap_mappings.specs.declared.mapping.Mapping.{Mapping}

-- the first stands at the position of the second, or before it
abbrev pub IsAtOrBefore : Mapping → Mapping → Type 0
IsAtOrBefore a b = (a.line < b.line) ⊎ ((a.line ≡ b.line) × (a.column ≤ b.column))

-- each mapping stands at the position of the next, or before it
abbrev pub IsInOrder : List Mapping → Type 0
IsInOrder [] = Unit {0}
IsInOrder (a ∷ []) = Unit {0}
IsInOrder (a ∷ b ∷ mappings) = IsAtOrBefore a b × IsInOrder (b ∷ mappings)
