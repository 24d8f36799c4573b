-- Where mappings in order need not be sought any more.
use Rattle.std.specs.Prelude.{ℕ, Bool, false, Option, Some, None, nat_lt}
use Rattle.smap_mappings.specs.declared.mapping.Mapping.{Mapping}

-- the mapping stands past this generated line, where one is given
abbrev pub is_past_line : (line : Option ℕ) → Mapping → Bool
is_past_line None mapping = false
is_past_line (Some line) mapping = nat_lt line mapping.line
