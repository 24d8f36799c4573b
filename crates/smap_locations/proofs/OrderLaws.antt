-- What is found without patterns is found with them, and what patterns have is found at last.
use Rattle.std.proofs.Common.{◌≡◌, ℕ, true, List, [], Option, Some, None, is_some, refl}
use Rattle.smap_locations.specs.Locations.{LocationsSeen, has_path_as_named, has_pattern_path_in_text, or_else, path_for, path_in_folders}
use Rattle.smap_locations.specs.ByText.{value_under}
use Rattle.smap_locations.specs.Paths.{without_query}
use Rattle.smap_locations.specs.Patterns.{path_by_patterns}
use Rattle.smap_locations.proofs.InTextLaws.{path_in_text}

or_more : (one two three last : Option (List ℕ)) (path : List ℕ) → or_else one (or_else two (or_else three None)) ≡ Some path
    → or_else one (or_else two (or_else three last)) ≡ Some path
or_more (Some one) two three last path is = is
or_more None (Some two) three last path is = is
or_more None None (Some three) last path is = is
or_more None None None last path is = cc

pub found_before : (locations : LocationsSeen) (url path : List ℕ) → path_for (record locations { patterns = [] }) url ≡ Some path
    → path_for locations url ≡ Some path
found_before locations url path is =
    let short = without_query url in
    or_more (value_under url locations.files) (value_under short locations.files) (path_in_folders locations.folders short)
    (path_by_patterns locations.patterns url short) path is

-- ---- that there is a path

some_more : (one two three last : Option (List ℕ)) → is_some (or_else one (or_else two (or_else three None))) ≡ true
    → is_some (or_else one (or_else two (or_else three last))) ≡ true
some_more (Some one) two three last is = is
some_more None (Some two) three last is = is
some_more None None (Some three) last is = is
some_more None None None last is = cc

some_last : (one two three last : Option (List ℕ)) → is_some last ≡ true → is_some (or_else one (or_else two (or_else three last))) ≡ true
some_last (Some one) two three last is = refl
some_last None (Some two) three last is = refl
some_last None None (Some three) last is = refl
some_last None None None last is = is

pub named_found : (locations : LocationsSeen) (url : List ℕ) → has_path_as_named locations url ≡ true → is_some (path_for locations url) ≡ true
named_found locations url is =
    let short = without_query url in
    some_more (value_under url locations.files) (value_under short locations.files) (path_in_folders locations.folders short)
    (path_by_patterns locations.patterns url short) is

pub pattern_found : (locations : LocationsSeen) (url : List ℕ) → has_pattern_path_in_text locations url ≡ true → is_some (path_for locations url) ≡ true
pattern_found locations url is =
    let short = without_query url in
    some_last (value_under url locations.files) (value_under short locations.files) (path_in_folders locations.folders short)
    (path_by_patterns locations.patterns url short) (path_in_text url short locations.patterns is)
