-- The path of a URL's map in a folder (this project's own): what stands in the URL behind the folder's prefix, where that is a
-- plain path, with `.map` behind it. So no URL leads out of the folder.
use Rattle.std.specs.Prelude.{ℕ, ◌==◌, ◌||◌, ◌&&◌, Bool, not, nat_le, List, ◌++◌, Option, Some, None, codes, length, take, if◌then◌else◌}
use Rattle.std.specs.List.{list_all, prefix_len, slice_split}
use Rattle.std.specs.Str.{bytes_eq, is_utf8}

-- neither a query nor a fragment begins with this byte
abbrev pub is_before_query : ℕ → Bool
is_before_query byte = not (byte == 63 || byte == 35)

-- a URL without its query and its fragment
abbrev pub without_query : List ℕ → List ℕ
without_query url = take (prefix_len is_before_query url) url

-- a byte of a plain path: no control character of ASCII, no `\` and no `:`
abbrev pub is_plain_byte : ℕ → Bool
is_plain_byte byte = nat_le 32 byte && not (byte == 127) && not (byte == 92) && not (byte == 58)

-- a piece of one: it has a byte, and is neither `.` nor `..`
abbrev pub is_plain_piece : List ℕ → Bool
is_plain_piece piece = not (length piece == 0) && not (bytes_eq piece (codes ".")) && not (bytes_eq piece (codes ".."))

-- a plain path, whose pieces stand between `/`
abbrev pub is_plain : List ℕ → Bool
is_plain rest = list_all is_plain_byte rest && list_all is_plain_piece (slice_split (λ byte. byte == 47) rest)

-- a folder has a path for the map of a URL that has this behind the folder's prefix; a path is UTF-8
abbrev pub has_map_path : (rest : List ℕ) → Bool
has_map_path rest = is_utf8 rest && is_plain rest

abbrev pub map_path : (folder rest : List ℕ) → Option (List ℕ)
map_path folder rest = if has_map_path rest then Some (folder ++ (rest ++ codes ".map")) else None
