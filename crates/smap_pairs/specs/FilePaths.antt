-- The path of a file in a folder: what stands in a URL behind the folder's prefix, but for a query and a fragment. It leads nowhere but
-- into the folder.
use Rattle.std.specs.Prelude.{◌≡◌, ℕ, ◌==◌, ◌&&◌, Bool, not, nat_le, List, codes, length}
use Rattle.std.specs.List.{list_all, slice_split}
use Rattle.std.specs.Str.{bytes_eq, is_utf8}

-- no control byte, which leads nowhere, and no sign of a drive or of another folder
abbrev pub is_plain_byte : ℕ → Bool
is_plain_byte byte = nat_le 32 byte && not (byte == 127) && not (byte == 92) && not (byte == 58)

-- neither the folder itself nor the one that it is in
abbrev pub is_plain_piece : List ℕ → Bool
is_plain_piece piece = not (length piece == 0) && not (bytes_eq piece (codes ".")) && not (bytes_eq piece (codes ".."))

-- the name of a file, or of a folder in a folder
abbrev pub is_file_name : List ℕ → Bool
is_file_name piece = is_plain_piece piece && list_all is_plain_byte piece && is_utf8 piece

-- the path of a file in a folder, whose pieces stand between `/`
abbrev pub is_file_path : List ℕ → Bool
is_file_path path = list_all is_file_name (slice_split (λ byte. byte == 47) path)

-- a path is one of a file where it is UTF-8, and its bytes and its pieces are plain
abbrev pub IsByParts : Type 0
IsByParts = (path : List ℕ) → is_file_path path
    ≡ (is_utf8 path && (list_all is_plain_byte path && list_all is_plain_piece (slice_split (λ byte. byte == 47) path)))
