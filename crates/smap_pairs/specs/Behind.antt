-- What stands behind a name and before a pair: a query or a fragment of the name; or, behind the prefix of a folder, the path of a
-- file in that, with or without them.
use Rattle.std.specs.Prelude.{◌≡◌, ℕ, zero, suc, ◌==◌, ◌||◌, ◌&&◌, ◌-◌, ◌≤◌, Bool, false, not, nat_le, nat_lt, List, [], ◌∷◌, codes, drop, length, max, min, slice_index, slice_index_or, take, vec_capacity, if◌then◌else◌}
use Rattle.std.specs.List.{list_all, list_any, prefix_len}
use Rattle.smap_pairs.specs.Brackets.{has_paired_brackets}
use Rattle.smap_pairs.specs.Bytes.{is_control}
use Rattle.smap_pairs.specs.FilePaths.{is_file_path}
use Rattle.smap_pairs.specs.Signs.{text_of}
use Rattle.smap_pairs.specs.declared.behind.Behind.{Behind}
use Rattle.smap_pairs.specs.declared.seen.SeenByte.{SeenByte}

-- ---- what fits behind a name

-- a byte that does not stand there
abbrev pub is_barred_byte : ℕ → Bool
is_barred_byte byte = is_control byte || list_any (λ sign. byte == sign) (codes "\"'`<>")

-- it does not, or what it counts as
abbrev pub is_barred : SeenByte → Bool
is_barred seen = is_barred_byte seen.byte || is_barred_byte seen.counts

-- a query or a fragment begins with a byte
abbrev pub begins_query : ℕ → Bool
begins_query byte = byte == 63 || byte == 35

-- what stands before the query and the fragment
abbrev pub without_query : List ℕ → List ℕ
without_query text = take (prefix_len (λ byte. not (begins_query byte)) text) text

abbrev pub has_backslash : List ℕ → Bool
has_backslash text = list_any (λ byte. byte == 92) text

-- what stands between a name and a pair may do so: none of its bytes is barred, its brackets stand in pairs, and no `\` is in a path
abbrev pub fits : List SeenByte → Bool
fits rest =
    list_all (λ seen. not (is_barred seen)) rest && has_paired_brackets (text_of rest) && not (has_backslash (without_query (text_of rest)))

-- ---- before a pair, where `before` is its line up to it

-- from which byte on it may stand: neither before the piece of the pair, nor more than 2,048 bytes before the pair
abbrev pub lowest : (before : List SeenByte) → (piece : ℕ) → ℕ
lowest before piece = max piece (length before - 2048)

-- it fits from a byte on
abbrev pub fits_at : (before : List SeenByte) → (piece at : ℕ) → Bool
fits_at before piece at = nat_le (lowest before piece) at && fits (drop at before)

-- a byte stands behind a `/`, with which prefixes end
abbrev pub is_behind_slash : (text : List ℕ) → (at : ℕ) → Bool
is_behind_slash text at = nat_lt 0 at && slice_index text (at - 1) == 47

-- it fits from a byte on, and a folder has a file for it
abbrev pub is_in_folder : (before : List SeenByte) → (piece at : ℕ) → Bool
is_in_folder before piece at =
    is_behind_slash (text_of before) at && is_file_path (without_query (text_of (drop at before))) && fits_at before piece at

-- it fits from a byte on, with which a query or a fragment begins
abbrev pub is_query_at : (before : List SeenByte) → (piece at : ℕ) → Bool
is_query_at before piece at = begins_query (slice_index (text_of before) at) && fits_at before piece at

-- where such a query or fragment begins before a byte, from the last on
abbrev pub queries_below : (before : List SeenByte) → (piece at : ℕ) → List ℕ
queries_below before piece zero = []
queries_below before piece (suc at) = if is_query_at before piece at then at ∷ queries_below before piece at else queries_below before piece at

abbrev pub queries_of : (before : List SeenByte) → (piece : ℕ) → List ℕ
queries_of before piece = queries_below before piece (length before)

-- each that does is among them, and no other byte
abbrev pub AreQueries : Type 0
AreQueries = (before : List SeenByte) (piece query : ℕ) → list_any (λ at. at == query) (queries_of before piece)
    ≡ (nat_lt query (length before) && is_query_at before piece query)

-- ---- as it is noted

-- what is noted of a byte, where the bytes are noted from the last on
abbrev pub is_noted : Behind → (at : ℕ) → Bool
is_noted behind at = nat_lt at behind.end && slice_index_or behind.folders.items (behind.end - 1 - at) false

-- what stands before a pair is noted
pub record IsBehind (before : List SeenByte) (piece : ℕ) (behind : Behind) : Type 0 where
  pub folders : (at : ℕ) → is_noted behind at ≡ is_in_folder before piece at
  pub queries : behind.queries.items ≡ queries_of before piece

-- ---- its room

-- so many bytes can be noted, and no memory is asked for
abbrev pub HasRoom : (bytes : ℕ) → Behind → Type 0
HasRoom bytes behind = (bytes ≤ vec_capacity behind.folders) × (bytes ≤ vec_capacity behind.queries)

-- how many are noted at most before a pair, in a line of so many bytes
abbrev pub most_noted : (bytes : ℕ) → ℕ
most_noted bytes = min bytes 2048

-- it has as much room as it had
abbrev pub KeepsRoom : (old new : Behind) → Type 0
KeepsRoom old new = (vec_capacity old.folders ≤ vec_capacity new.folders) × (vec_capacity old.queries ≤ vec_capacity new.queries)
