-- Paths that are named for URLs, or for prefixes of URLs.
use Rattle.std.specs.Prelude.{ℕ, List, Option, Some, None, is_some, if◌then◌else◌}
use Rattle.smap_locations.specs.ByText.{value_under}
use Rattle.smap_locations.specs.declared.refusal.LocationRefusal.{LocationRefusal}
use Rattle.smap_locations.specs.declared.refusal.LocationRefusal.TheVariants.{Twice}

-- paths, each under a URL
abbrev pub Named : Type 0
Named = List (List ℕ × List ℕ)

-- why a path is not put under a URL, memory aside
abbrev pub twice : Named → (url : List ℕ) → Option LocationRefusal
twice named url = if is_some (value_under url named) then Some Twice else None
