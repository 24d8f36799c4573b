-- What is known of an escape that a text begins with.
use Rattle.std.specs.Prelude.{ℕ, ◌<◌, ◌≤◌, List, length}
use Rattle.smap_pairs.specs.declared.escapes.Escape.{Escape}

-- it has a byte, and stands in the text
abbrev pub IsWithin : (text : List ℕ) → Escape → Type 0
IsWithin text escape = (0 < escape.size) × (escape.size ≤ length text)
