-- The URLs under which maps may be asked for (this project's own).
use Rattle.std.specs.Prelude.{ℕ, ◌==◌, ◌||◌, ◌&&◌, Bool, not, List, codes, length, nat_eq, take}
use Rattle.std.specs.List.{ends_with, list_all, prefix_len, slice_split, starts_with}
use Rattle.std.specs.Str.{bytes_eq}
use Rattle.smap_anywhere.specs.SeemingUrls.{looks_like_url}
use Rattle.smap_locations.specs.Patterns.{is_separator}

-- ---- the pieces of a path, which stand between `/` and `\`

abbrev pub is_within_piece : ℕ → Bool
is_within_piece byte = not (is_separator byte)

abbrev pub first_piece : (path : List ℕ) → List ℕ
first_piece path = take (prefix_len is_within_piece path) path

-- a scheme, a drive or a separator stands before all names
abbrev pub is_whole : (url : List ℕ) → Bool
is_whole url = length (first_piece url) == 0 || ends_with nat_eq (first_piece url) (codes ":")

-- a piece that is no way out of the folder before it
abbrev pub is_inside : (piece : List ℕ) → Bool
is_inside piece = not (length piece == 0) && not (bytes_eq piece (codes ".."))

abbrev pub leads_within : (path : List ℕ) → Bool
leads_within path = list_all is_inside (slice_split is_separator path)

-- ---- what may be asked for

-- it is no pattern, looks like a URL, and is a whole one or leads nowhere else
abbrev pub is_location : (url : List ℕ) → Bool
is_location url = not (starts_with nat_eq url (codes "*")) && looks_like_url url && (is_whole url || leads_within url)
