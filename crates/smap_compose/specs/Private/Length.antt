-- The lines that a canonical text passes.
use Rattle.std.specs.Prelude.{ℕ, Option, Some, None}
use Rattle.smap_mappings.specs.declared.mapping.Mapping.{Mapping}

-- the line of a mapping, and 0 where there is none
abbrev pub line_of : Option Mapping → ℕ
line_of None = 0
line_of (Some mapping) = mapping.line
