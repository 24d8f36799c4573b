-- Whether a URL without a scheme is a path.
use Rattle.std.specs.Prelude.{ℕ, ◌==◌, ◌&&◌, ◌||◌, Bool, true, false, not, nat_le, List, [], ◌∷◌, Option, Some, None, codes, if◌then◌else◌}
use Rattle.std.specs.List.{list_all, list_any}
use Rattle.smap_pairs.specs.Bytes.{is_edge_byte, is_letter_or_digit}
use Rattle.smap_pairs.specs.Root.{behind, is_root, is_text, until}

-- the last byte of a text, behind this byte
abbrev pub last_byte : (before : ℕ) → (text : List ℕ) → ℕ
last_byte before [] = before
last_byte before (byte ∷ text) = last_byte byte text

-- a sign of a list or of a difference
abbrev pub begins_with_mark : (piece : List ℕ) → Bool
begins_with_mark [] = false
begins_with_mark (byte ∷ piece) = byte == 43 || byte == 45

-- dots, `~` or nothing
abbrev pub is_dots_or_home : (piece : List ℕ) → Bool
is_dots_or_home piece = list_all (λ byte. byte == 46) piece || is_text (codes "~") piece

-- a name, or that, without strange bytes
abbrev pub is_name : (is_strange : ℕ → Bool) → (piece : List ℕ) → Bool
is_name is_strange piece =
    (list_any is_letter_or_digit piece && not (begins_with_mark piece) || is_dots_or_home piece) && not (list_any is_strange piece)

-- the first piece of a path: a root, or a name
abbrev pub is_first : (is_strange : ℕ → Bool) → (piece : List ℕ) → Bool
is_first is_strange piece =
    is_root piece || not (list_any (λ byte. byte == 58) piece) && not (is_edge_byte (last_byte 47 piece)) && is_name is_strange piece

-- a byte that stands in no path
abbrev pub is_of_no_path : ℕ → Bool
is_of_no_path byte = byte == 58 || byte == 60 || byte == 62

-- what stands before a byte: dots and `~` behind an edge are passed over, since `../` would begin another path there
abbrev pub before_next : (last byte : ℕ) → ℕ
before_next last byte = if is_edge_byte last && (byte == 46 || byte == 126) then last else byte

-- behind it none of these stands, and no `/` behind an edge, where this byte stands before
abbrev pub has_plain_pieces : (last : ℕ) → (path : List ℕ) → Bool
has_plain_pieces last [] = true
has_plain_pieces last (byte ∷ path) = not (is_of_no_path byte || byte == 47 && is_edge_byte last) && has_plain_pieces (before_next last byte) path

abbrev pub is_path_of : (is_strange : ℕ → Bool) → (first : List ℕ) → (others : Option (List ℕ)) → Bool
is_path_of is_strange first None = true
is_path_of is_strange first (Some others) = is_first is_strange first && has_plain_pieces 47 others

-- what stands before the first `?` has no `/`, or such pieces
unfoldable pub is_path : (is_strange : ℕ → Bool) → (url : List ℕ) → Bool
is_path is_strange url = is_path_of is_strange (until 47 (until 63 url)) (behind 47 (until 63 url))

-- a byte with which characters begin that are signs, as quotation marks are, or are of scripts without blanks
abbrev pub is_strange : ℕ → Bool
is_strange byte = nat_le 192 byte && nat_le byte 194 || nat_le 224 byte
