-- The root of a path, which stands before its first `/`.
use Rattle.std.specs.Prelude.{ℕ, ◌==◌, ◌&&◌, ◌||◌, Bool, true, false, not, List, [], ◌∷◌, Option, Some, None, codes, if◌then◌else◌}
use Rattle.std.specs.Char.{is_ascii_alphabetic, is_ascii_alphanumeric, is_ascii_digit}
use Rattle.std.specs.List.{list_all, list_any}

-- ---- parts of a text

-- what stands before the first of these bytes
abbrev pub until : (byte : ℕ) → (text : List ℕ) → List ℕ
until byte [] = []
until byte (one ∷ text) = if one == byte then [] else one ∷ until byte text

-- what stands behind it, if there is one
abbrev pub behind : (byte : ℕ) → (text : List ℕ) → Option (List ℕ)
behind byte [] = None
behind byte (one ∷ text) = if one == byte then Some text else behind byte text

abbrev pub is_empty : (text : List ℕ) → Bool
is_empty [] = true
is_empty _ = false

-- a text is another
abbrev pub is_text : (other text : List ℕ) → Bool
is_text [] [] = true
is_text (one ∷ other) (byte ∷ text) = byte == one && is_text other text
is_text _ _ = false

-- ---- a root

-- one letter and a `:`
abbrev pub is_drive : (piece : List ℕ) → Bool
is_drive [] = false
is_drive (letter ∷ piece) = is_ascii_alphabetic letter && is_text (codes ":") piece

abbrev pub is_host_byte : ℕ → Bool
is_host_byte byte = is_ascii_alphanumeric byte || byte == 45 || byte == 46

-- a byte that no number has
abbrev pub is_of_name : ℕ → Bool
is_of_name byte = is_ascii_alphabetic byte || byte == 46

abbrev pub is_host : (host : List ℕ) → Bool
is_host host = list_all is_host_byte host && list_any is_of_name host

abbrev pub is_port : Option (List ℕ) → Bool
is_port None = false
is_port (Some port) = not (is_empty port) && list_all is_ascii_digit port

-- a host, `:` and its port
abbrev pub is_host_and_port : (piece : List ℕ) → Bool
is_host_and_port piece = is_host (until 58 piece) && is_port (behind 58 piece)

unfoldable pub is_root : (piece : List ℕ) → Bool
is_root piece = is_drive piece || is_text (codes "file:") piece || is_host_and_port piece
