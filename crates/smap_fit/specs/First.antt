-- The first mapping that is so.
use Rattle.std.specs.Prelude.{Bool, List, [], ◌∷◌, Option, None, Some, if◌then◌else◌}
use Rattle.smap_mappings.specs.declared.mapping.Mapping.{Mapping}

-- the first of these that is so
abbrev pub first_with : (Mapping → Bool) → List Mapping → Option Mapping
first_with is_so [] = None
first_with is_so (mapping ∷ mappings) = if is_so mapping then Some mapping else first_with is_so mappings

-- this one, if there is one, or else that
abbrev pub or_else : Option Mapping → Option Mapping → Option Mapping
or_else None other = other
or_else (Some mapping) other = Some mapping
