-- Which mappings stand out of order, and which have a number past the limit, as questions with an answer. A position is
-- known as a mapping that stands there.
use Rattle.std.specs.Prelude.{ℕ, Option, Some, None, Bool, false, ◌&&◌, ◌||◌, ◌==◌, nat_lt}
use Rattle.smap_mappings.specs.Limits.{limit}
use Rattle.smap_mappings.specs.declared.mapping.Mapping.{Mapping}
use Rattle.smap_mappings.specs.declared.mapping.Origin.{Origin}
use Rattle.smap_mappings.specs.declared.position.Position.{Position}

abbrev pub is_number_past_limit : ℕ → Bool
is_number_past_limit n = nat_lt limit n

abbrev pub is_name_past_limit : Option ℕ → Bool
is_name_past_limit None = false
is_name_past_limit (Some name) = is_number_past_limit name

abbrev pub is_origin_past_limit : Option Origin → Bool
is_origin_past_limit None = false
is_origin_past_limit (Some origin) =
    is_number_past_limit origin.source || is_number_past_limit origin.line || is_number_past_limit origin.column || is_name_past_limit origin.name

-- a number of the mapping is past the limit
abbrev pub is_mapping_past_limit : Mapping → Bool
is_mapping_past_limit mapping = is_number_past_limit mapping.line || is_number_past_limit mapping.column || is_origin_past_limit mapping.origin

-- the first stands before the second, by generated line, then by generated column
abbrev pub stands_before : Mapping → Mapping → Bool
stands_before a b = nat_lt a.line b.line || a.line == b.line && nat_lt a.column b.column

-- a position, as a mapping without an origin
abbrev pub position_at : (line column : ℕ) → Mapping
position_at line column = record { line = line; column = column; origin = None }

abbrev pub at_position : Position → Mapping
at_position position = position_at position.line position.column
