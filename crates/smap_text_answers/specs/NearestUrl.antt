-- Which argument is nearest to a URL that none has (this project's own).
use Rattle.std.specs.Prelude.{ℕ, zero, suc, List, Option, Some, None, fold, if◌then◌else◌, length, max, min, nat_lt, option_map, reverse, take}
use Rattle.std.specs.Bool.{nat_eq}
use Rattle.std.specs.List.{common_prefix_len}
use Rattle.smap_locations.specs.ListLine.{is_folder}
use Rattle.smap_locations.specs.Paths.{without_query}

-- how long the ending is that two texts share
abbrev pub common_ending : (one other : List ℕ) → ℕ
common_ending one other = common_prefix_len nat_eq (reverse one) (reverse other)

-- how long the longest is that one of the fronts of a URL, of at most so many bytes, shares with a prefix
abbrev pub front_ending : (url prefix : List ℕ) → (bytes : ℕ) → ℕ
front_ending url prefix zero = 0
front_ending url prefix (suc bytes) = max (front_ending url prefix bytes) (common_ending (take (suc bytes) url) prefix)

-- how long the longer ending is that a URL and that of a file share, as they stand or both without a query and a fragment
abbrev pub file_ending : (url name : List ℕ) → ℕ
file_ending url name = max (common_ending url name) (common_ending (without_query url) (without_query name))

-- what a URL shares with an argument, which is a name and a path: with the prefix of a folder that ending of a front, where the
-- first 1,024 bytes of the URL are looked at, and with the URL of a file an ending
abbrev pub shared : (url : List ℕ) → (argument : List ℕ × List ℕ) → ℕ
shared url (name, path) = if is_folder path then front_ending url name (min 1024 (length url)) else file_ending url name

-- how long it is of a URL and the nearest so far
abbrev pub shared_so_far : (url : List ℕ) → (nearest : Option (List ℕ × List ℕ)) → ℕ
shared_so_far url None = 0
shared_so_far url (Some nearest) = shared url nearest

abbrev pub nearer : (url : List ℕ) → (nearest : Option (List ℕ × List ℕ)) → (argument : List ℕ × List ℕ) → Option (List ℕ × List ℕ)
nearer url nearest argument = if nat_lt (shared_so_far url nearest) (shared url argument) then Some argument else nearest

-- the URL or the prefix of the first argument of those that share most with a URL, where one shares something
abbrev pub nearest_of : (url : List ℕ) → (arguments : List (List ℕ × List ℕ)) → Option (List ℕ)
nearest_of url arguments = option_map (λ a. a.0) (fold (nearer url) None arguments)
