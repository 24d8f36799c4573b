-- What decides where the map of a URL is, as it was named (this project's own): the URL, with or without its query and its
-- fragment, the longest prefix that has a folder, or a pattern behind its `*`.
use Rattle.std.specs.Prelude.{ℕ, zero, suc, ◌++◌, List, Option, Some, None, codes, if◌then◌else◌, is_some, length, take}
use Rattle.smap_locations.specs.ByText.{value_under}
use Rattle.smap_locations.specs.Locations.{LocationsSeen, or_else, path_in_folders}
use Rattle.smap_locations.specs.Named.{Named}
use Rattle.smap_locations.specs.Paths.{without_query}
use Rattle.smap_locations.specs.Patterns.{deciding, path_by}

-- a text, where it leads to a path
abbrev pub where_some : (text : List ℕ) → (path : Option (List ℕ)) → Option (List ℕ)
where_some text None = None
where_some text (Some path) = Some text

-- how many bytes the longest prefix of a URL has, of at most so many, that has a folder; 0 where none has one
abbrev pub prefix_within : Named → (url : List ℕ) → (bytes : ℕ) → ℕ
prefix_within folders url zero = 0
prefix_within folders url (suc bytes) = if is_some (value_under (take (suc bytes) url) folders) then suc bytes else prefix_within folders url bytes

abbrev pub longest_prefix : Named → (url : List ℕ) → ℕ
longest_prefix folders url = prefix_within folders url (length url)

-- the prefix that decides, where its folder has a path for the URL
abbrev pub deciding_prefix : Named → (url : List ℕ) → Option (List ℕ)
deciding_prefix folders url = where_some (take (longest_prefix folders url) url) (path_in_folders folders url)

-- a pattern as it is named
abbrev pub pattern_name : (short : List ℕ) → Option (List ℕ × List ℕ) → Option (List ℕ)
pattern_name short None = None
pattern_name short (Some pattern) = where_some (codes "*" ++ pattern.0) (path_by pattern short)

-- what decides, where the URL has a path
abbrev pub decided_by : LocationsSeen → (url : List ℕ) → Option (List ℕ)
decided_by locations url =
    or_else (where_some url (value_under url locations.files))
    (or_else (where_some (without_query url) (value_under (without_query url) locations.files))
    (or_else (deciding_prefix locations.folders (without_query url))
    (pattern_name (without_query url) (deciding url (without_query url) None locations.patterns))))
