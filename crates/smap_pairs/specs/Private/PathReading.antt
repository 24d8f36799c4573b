-- Of private contracts only: how a path is read byte by byte.
use Rattle.std.specs.Prelude.{ℕ, ◌==◌, ◌&&◌, ◌||◌, Bool, true, false, not, List, if◌then◌else◌}
use Rattle.std.specs.Char.{is_ascii_alphabetic, is_ascii_digit}
use Rattle.std.specs.List.{fold}
use Rattle.smap_pairs.specs.Bytes.{is_edge_byte, is_letter_or_digit}
use Rattle.smap_pairs.specs.Path.{before_next, is_of_no_path}
use Rattle.smap_pairs.specs.Root.{is_host_byte, is_of_name}
use Rattle.smap_pairs.specs.declared.path.FirstPiece.{FirstPiece}
use Rattle.smap_pairs.specs.declared.path.PathReader.{PathReader}
use Rattle.smap_pairs.specs.declared.path.PathReader.TheVariants.{First, Later, Read}
use Rattle.smap_pairs.specs.declared.path.Start.{Start}
use Rattle.smap_pairs.specs.declared.path.Start.TheVariants.{Nothing, Dots, Home, Mark, Name}
use Rattle.smap_pairs.specs.declared.root.Root.{Root}
use Rattle.smap_pairs.specs.declared.root.Root.TheVariants.{Begins, Drive, F, Fi, Fil, File, Host, Colon, Port, Other}

-- ---- a root

abbrev pub root_in_host : (is_named : Bool) → (byte : ℕ) → Root
root_in_host is_named byte = if is_host_byte byte then Host (is_named || is_of_name byte) else Other

abbrev pub root_in_port : (byte : ℕ) → Root
root_in_port byte = if is_ascii_digit byte then Port else Other

abbrev pub root_after : Root → (byte : ℕ) → Root
root_after Begins byte = if byte == 102 then F else (if is_ascii_alphabetic byte then Drive else root_in_host false byte)
root_after Drive byte = if byte == 58 then Colon true else root_in_host true byte
root_after F byte = if byte == 58 then Colon true else (if byte == 105 then Fi else root_in_host true byte)
root_after Fi byte = if byte == 58 then Colon false else (if byte == 108 then Fil else root_in_host true byte)
root_after Fil byte = if byte == 58 then Colon false else (if byte == 101 then File else root_in_host true byte)
root_after File byte = if byte == 58 then Colon true else root_in_host true byte
root_after (Host is_named) byte = if is_named && byte == 58 then Colon false else root_in_host is_named byte
root_after (Colon is_root) byte = root_in_port byte
root_after Port byte = root_in_port byte
root_after Other byte = Other

-- it is one before a `/`
abbrev pub is_root_read : Root → Bool
is_root_read (Colon is_whole) = is_whole
is_root_read Port = true
is_root_read _ = false

-- ---- the first piece

abbrev pub start_after : Start → (byte : ℕ) → Start
start_after Nothing byte = if byte == 46 then Dots else if byte == 126 then Home else if byte == 43 || byte == 45 then Mark else Name
start_after Dots byte = if byte == 46 then Dots else Name
start_after Home byte = Name
start_after Mark byte = Mark
start_after Name byte = Name

abbrev pub first_begins : FirstPiece
first_begins = record { root = Begins; last = 47; start = Nothing; has_letter = false; has_strange = false; has_colon = false }

abbrev pub first_after : (is_strange : Bool) → (byte : ℕ) → FirstPiece → FirstPiece
first_after is_strange byte first = record {
  root = root_after first.root byte;
  last = byte;
  start = start_after first.start byte;
  has_letter = first.has_letter || is_letter_or_digit byte;
  has_strange = first.has_strange || is_strange;
  has_colon = first.has_colon || byte == 58;
}

abbrev pub is_name_with : (has_letter : Bool) → Start → Bool
is_name_with has_letter Name = has_letter
is_name_with has_letter Mark = false
is_name_with has_letter _ = true

abbrev pub is_path_begun : FirstPiece → Bool
is_path_begun first =
    is_root_read first.root
    || not first.has_colon && not (is_edge_byte first.last) && (is_name_with first.has_letter first.start && not first.has_strange)

-- ---- all

abbrev pub path_after : (is_strange : Bool) → (byte : ℕ) → PathReader → PathReader
path_after is_strange byte (First first) =
    if byte == 63 then Read true else (if byte == 47 then (if is_path_begun first then Later 47 else Read false) else First (first_after is_strange byte first))
path_after is_strange byte (Later last) =
    if byte == 63 then Read true
    else (if is_of_no_path byte || byte == 47 && is_edge_byte last then Read false else Later (before_next last byte))
path_after is_strange byte (Read is_path) = Read is_path

abbrev pub is_path_read : PathReader → Bool
is_path_read (Read is_path) = is_path
is_path_read _ = true

abbrev pub path_read : (is_strange : ℕ → Bool) → PathReader → (url : List ℕ) → PathReader
path_read is_strange reader url = fold (λ read byte. path_after (is_strange byte) byte read) reader url
