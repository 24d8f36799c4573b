-- What contracts see of a pattern: its text, and its path.
use Rattle.std.specs.Prelude.{ℕ, List, string_bytes}
use Rattle.smap_locations.specs.declared.pattern.Pattern.{Pattern}

abbrev pub pattern_seen : Pattern → List ℕ × List ℕ
pattern_seen pattern = (pattern.text.items, string_bytes pattern.path)
