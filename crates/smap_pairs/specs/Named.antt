-- A URL that is named, and ends before the numbers of a pair (this project's own). It begins in the piece of the pair where a URL
-- may, and is named as it stands, or by a list without its query and its fragment, or stands behind the prefix of a folder. The
-- longest counts. What stands behind a name up to the pair is told by two tests of the byte from which on it stands: it is a
-- query or a fragment (`is_query`), and a folder has a file for it (`in_folder`).
use Rattle.std.specs.Prelude.{ℕ, zero, suc, ◌+◌, ◌-◌, ◌==◌, ◌||◌, ◌&&◌, Bool, true, false, not, List, Option, Some, None, max, if◌then◌else◌}
use Rattle.std.specs.List.{slice_get, slice_range}
use Rattle.smap_pairs.specs.Greatest.{greatest, most_below}
use Rattle.smap_pairs.specs.Known.{UrlsKnown}
use Rattle.smap_pairs.specs.declared.known.NamedBy.{NamedBy}
use Rattle.smap_pairs.specs.declared.known.NamedBy.TheVariants.{Any, List as ByList}
use Rattle.smap_pairs.specs.declared.seen.SeenByte.{SeenByte}

-- a URL that is named may begin behind this byte: at an edge, or behind any `'`
abbrev pub is_before_name : Option SeenByte → Bool
is_before_name None = false
is_before_name (Some seen) = seen.is_edge || seen.byte == 39

abbrev pub may_begin_name : (seen : List SeenByte) → (at : ℕ) → Bool
may_begin_name seen zero = true
may_begin_name seen (suc at) = is_before_name (slice_get seen at)

-- The line is this text, its bytes count as what is seen, and the pair's piece begins at a byte.
module _ (known : UrlsKnown) (text : List ℕ) (seen : List SeenByte) (piece : ℕ) where
  -- so many bytes up to a byte are a URL that is named
  abbrev pub is_named_before : NamedBy → (end bytes : ℕ) → Bool
  is_named_before by end bytes = may_begin_name seen (end - bytes) && known.is_named by (slice_range text (end - bytes) end)

  -- how many bytes the longest has, 0 where there is none
  abbrev pub named_bytes : NamedBy → (end : ℕ) → ℕ
  named_bytes by end = greatest (is_named_before by end) (end - piece)

-- how many bytes a URL has with what stands behind it, where it has any
abbrev pub with_rest : (rest bytes : ℕ) → ℕ
with_rest rest bytes = if bytes == 0 then 0 else bytes + rest

module _ (known : UrlsKnown) (text : List ℕ) (seen : List SeenByte) (piece : ℕ) (is_query : ℕ → Bool) (end : ℕ) where
  -- how many bytes the longest URL has that is named up to a query, with the query; 0 where there is none
  abbrev pub cut_bytes : NamedBy → (query : ℕ) → ℕ
  cut_bytes by query = if is_query query then with_rest (end - query) (named_bytes known text seen piece by query) else 0

  -- how many the longest of these has, 0 where there is none
  abbrev pub longest_cut : NamedBy → ℕ
  longest_cut by = most_below (cut_bytes by) end

  -- where the query begins of one that has so many, the last of several
  abbrev pub query_of : NamedBy → (bytes : ℕ) → ℕ
  query_of by bytes = greatest (λ query. cut_bytes by query == bytes) end

-- how many bytes the longest prefix has that begins at a byte and ends at another or before it, 0 where there is none
abbrev pub prefix_bytes : UrlsKnown → (text : List ℕ) → (end at : ℕ) → ℕ
prefix_bytes known text end at = greatest (λ n. known.is_prefix (slice_range text at (at + n))) (end - at)

-- a folder has a file for what stands behind a prefix of so many bytes
abbrev pub is_behind_prefix : (in_folder : ℕ → Bool) → (at bytes : ℕ) → Bool
is_behind_prefix in_folder at bytes = not (bytes == 0) && in_folder (at + bytes)

module _ (known : UrlsKnown) (text : List ℕ) (seen : List SeenByte) (in_folder : ℕ → Bool) (end : ℕ) where
  -- a URL of a folder begins at a byte
  abbrev pub begins_in_folder : (at : ℕ) → Bool
  begins_in_folder at = may_begin_name seen at && is_behind_prefix in_folder at (prefix_bytes known text end at)

  -- so many bytes before the pair are one
  abbrev pub is_in_folder : (bytes : ℕ) → Bool
  is_in_folder bytes = begins_in_folder (end - bytes)

module _ (known : UrlsKnown) (text : List ℕ) (seen : List SeenByte) (piece : ℕ) (is_query in_folder : ℕ → Bool) (end : ℕ) where
  -- how many bytes the longest URL has that ends at the pair and has its map by a name, 0 where there is none
  unfoldable pub own_bytes : ℕ
  own_bytes = max (max (named_bytes known text seen piece Any end) (longest_cut known text seen piece is_query end ByList))
      (greatest (is_in_folder known text seen in_folder end) (end - piece))
