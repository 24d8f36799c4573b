-- Which sources a map says to ignore (ECMA-426, Source map format, `ignoreList`).
use Rattle.std.specs.Prelude.{ℕ, List, Bool, ◌==◌, map}
use Rattle.std.specs.List.{list_any, range_with_len}

-- whether this source, from 0, stands in the list of ignored ones
abbrev pub is_ignored : List ℕ → ℕ → Bool
is_ignored ignored source = list_any (λ index. index == source) ignored

-- that of each of this many sources
abbrev pub ignored_flags : ℕ → List ℕ → List Bool
ignored_flags sources ignored = map (is_ignored ignored) (range_with_len 0 sources)
