-- What stands from a byte on before a pair, as it is read from its last byte.
use Rattle.std.specs.Prelude.{◌≡◌, ℕ, ◌==◌, ◌||◌, ◌&&◌, ◌+◌, ◌-◌, ◌<◌, ◌≤◌, Bool, true, false, not, List, [], ◌∷◌, ◌++◌, Some, drop, length, slice_index_or, if◌then◌else◌}
use Rattle.std.specs.List.{list_all, prefix_len}
use Rattle.smap_pairs.specs.Behind.{begins_query, fits, has_backslash, is_barred, is_behind_slash, is_in_folder, queries_below, queries_of, without_query}
use Rattle.smap_pairs.specs.FilePaths.{is_file_path}
use Rattle.smap_pairs.specs.Brackets.{closed_by, is_none_closed, none_closed}
use Rattle.smap_pairs.specs.Signs.{text_of}
use Rattle.smap_pairs.specs.declared.behind.Behind.{Behind}
use Rattle.smap_pairs.specs.declared.behind.Piece.{Piece}
use Rattle.smap_pairs.specs.declared.behind.Rest.{Rest}
use Rattle.smap_pairs.specs.declared.seen.SeenByte.{SeenByte}

-- a byte of a piece of a path
abbrev pub is_in_piece : ℕ → Bool
is_in_piece byte = not (begins_query byte || byte == 47)

-- what stands behind the first piece is the path of a file, or is none
abbrev pub has_path_behind : List ℕ → Bool
has_path_behind [] = true
has_path_behind (byte ∷ bytes) = if begins_query byte then true else is_file_path (without_query bytes)

-- the first piece of a rest that begins at a byte
pub record IsPiece (at : ℕ) (rest : List ℕ) (piece : Piece) : Type 0 where
  pub ends : piece.end ≡ at + prefix_len is_in_piece rest
  pub backslash : piece.has_backslash ≡ has_backslash (without_query rest)
  pub path : piece.has_path ≡ has_path_behind (drop (prefix_len is_in_piece rest) rest)

-- it, with a byte before it; `is_path` says whether the rest is the path of a file
abbrev pub piece_with : (at byte : ℕ) → (is_path : Bool) → Piece → Piece
piece_with at byte is_path piece =
    if begins_query byte then record { end = at; has_backslash = false; has_path = true }
    else if byte == 47 then record piece { end = at; has_path = is_path }
    else if byte == 92 then record piece { has_backslash = true }
    else piece

-- nothing, before a pair at a byte
abbrev pub rest_empty : (end : ℕ) → Rest
rest_empty end = record { at = end; closed = none_closed; piece = record { end = end; has_backslash = false; has_path = true }; is_path = false }

-- what stands from a byte on before a pair, where that may be read
pub record IsRest (before : List SeenByte) (rest : Rest) : Type 0 where
  pub within : rest.at ≤ length before
  pub free : list_all (λ seen. not (is_barred seen)) (drop rest.at before) ≡ true
  pub closed : closed_by (text_of (drop rest.at before)) ≡ Some rest.closed
  pub piece : IsPiece rest.at (text_of (drop rest.at before)) rest.piece
  pub path : rest.is_path ≡ (is_behind_slash (text_of before) rest.at && is_file_path (without_query (text_of (drop rest.at before))))

-- it may stand behind a name
abbrev pub rest_fits : Rest → Bool
rest_fits rest = is_none_closed rest.closed && not rest.piece.has_backslash

-- what stands from a byte on is noted
pub record IsNoting (before : List SeenByte) (piece : ℕ) (behind : Behind) (at : ℕ) : Type 0 where
  pub ends : behind.end ≡ length before
  pub count : length behind.folders.items + at ≡ length before
  pub folders : (i : ℕ) → at ≤ i → i < length before → slice_index_or behind.folders.items (length before - 1 - i) false ≡ is_in_folder before piece i
  pub queries : behind.queries.items ++ queries_below before piece at ≡ queries_of before piece

-- nothing fits that begins before a byte
abbrev pub IsEnd : (before : List SeenByte) → (at : ℕ) → Type 0
IsEnd before at = (i : ℕ) → i < at → fits (drop i before) ≡ false
