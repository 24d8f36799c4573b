-- What the bytes of a line count as.
--     An escape counts at its last byte, as what it means; its other bytes count as nothing, as those of a colour do. An
--     escaped letter beyond ASCII counts as the first byte of one, and another character as that of a quotation mark.
--     A `'` within a word counts as such a sign, too.
--     A URL may begin behind a byte that is an edge, behind an escape of one and a colour; and behind each `:` before a
--     single `/`, but that of a drive or of `file:`; and behind another character beyond ASCII before such a root.
use Rattle.std.specs.Prelude.{ℕ, zero, suc, ◌-◌, ◌==◌, ◌&&◌, ◌||◌, Bool, true, false, not, nat_le, nat_lt, List, [], ◌∷◌, ◌++◌, Option, Some, None}
use Rattle.std.specs.Prelude.{drop, if◌then◌else◌, map, max, slice_index, take}
use Rattle.std.specs.Char.{is_ascii_alphabetic}
use Rattle.std.specs.List.{prefix_len}
use Rattle.smap_pairs.specs.Bytes.{is_edge_byte, is_letter_or_digit}
use Rattle.smap_pairs.specs.Colours.{colour_behind}
use Rattle.smap_pairs.specs.Escapes.{escape_of, is_backslash}
use Rattle.smap_pairs.specs.declared.escapes.Escape.{Escape}
use Rattle.smap_pairs.specs.declared.seen.SeenByte.{SeenByte}
use Rattle.smap_pairs.specs.declared.token.Token.{Token}
use Rattle.smap_pairs.specs.declared.token.Token.TheVariants.{Bytes, Colour, Escaped}

-- ---- what a text begins with: bytes by themselves, an escape, or a colour

-- a colour, if there is one
abbrev pub coloured : (otherwise : Token) → Option ℕ → Token
coloured otherwise None = otherwise
coloured otherwise (Some size) = Colour size

-- the ESC of a colour has so many bytes, if it is one
abbrev pub escape_or_colour : (is_esc : Bool) → (size : ℕ) → (otherwise : Token) → (text : List ℕ) → Token
escape_or_colour false size otherwise text = otherwise
escape_or_colour true size otherwise text = coloured otherwise (colour_behind size (drop size text))

-- a run of backslashes that is no escape, or one byte
abbrev pub bytes_of : (text : List ℕ) → Token
bytes_of text = Bytes (max 1 (prefix_len is_backslash text))

abbrev pub token_by : (text : List ℕ) → Option Escape → Token
token_by text None = escape_or_colour (slice_index text 0 == 27) 1 (bytes_of text) text
token_by text (Some escape) = escape_or_colour (escape.means == 27) escape.size (Escaped escape) text

unfoldable pub token_of : (text : List ℕ) → Token
token_of text = token_by text (escape_of text)

abbrev pub token_size : Token → ℕ
token_size (Bytes size) = size
token_size (Escaped escape) = escape.size
token_size (Colour size) = size

-- neither an escape nor a colour begins with this byte
abbrev pub is_by_itself : ℕ → Bool
is_by_itself byte = not (byte == 92 || byte == 35 || byte == 27)

-- ---- what its bytes count as

abbrev pub by_itself : ℕ → SeenByte
by_itself byte = record { size = 0; byte = byte; counts = byte; is_edge = is_edge_byte byte }

-- within an escape or a colour
abbrev pub within : ℕ → SeenByte
within byte = record { size = 0; byte = byte; counts = 255; is_edge = false }

-- an escape or a colour of so many bytes, which counts at its last byte
abbrev pub counted : (size counts : ℕ) → (is_edge : Bool) → (text : List ℕ) → List SeenByte
counted size counts is_edge text =
    map within (take (size - 1) text) ++ record { size = size; byte = slice_index text (size - 1); counts = counts; is_edge = is_edge } ∷ []

-- what an escaped character counts as, beyond ASCII: letters from U+00C0 to U+07FF, scripts with blanks up to U+1FFF, and others
abbrev pub counts_as : ℕ → ℕ
counts_as means =
    if nat_lt means 128 then means else if nat_le 192 means && nat_lt means 2048 then 195
    else if nat_le 2048 means && nat_lt means 8192 then 225 else 226

abbrev pub token_bytes : Token → (text : List ℕ) → List SeenByte
token_bytes (Bytes size) text = map by_itself (take size text)
token_bytes (Escaped escape) text = counted escape.size (counts_as escape.means) (is_edge_byte escape.means) text
token_bytes (Colour size) text = counted size 255 true text

-- what the bytes of a text count as, but for the first so many, which belong to what stands before
unfoldable pub counted_from : (skip : ℕ) → (text : List ℕ) → List SeenByte
counted_from skip [] = []
counted_from (suc skip) (byte ∷ text) = counted_from skip text
counted_from zero (byte ∷ text) =
    token_bytes (token_of (byte ∷ text)) (byte ∷ text) ++ counted_from (token_size (token_of (byte ∷ text)) - 1) text

-- ---- what depends on what stands beside

-- `/` and no second one
abbrev pub begins_path : (text : List ℕ) → Bool
begins_path text = slice_index text 0 == 47 && not (slice_index text 1 == 47)

-- a byte of a character beyond ASCII, and not its first
abbrev pub is_continuation : ℕ → Bool
is_continuation byte = nat_le 128 byte && nat_le byte 191

-- the first byte of the character that ends with one, of which these stand before it, the last first
abbrev pub first_byte : (before : List SeenByte) → ℕ
first_byte [] = 0
first_byte (seen ∷ before) = if is_continuation seen.byte then first_byte before else seen.byte

-- characters from U+00C0 to U+1FFF begin with such a byte: letters, of scripts with blanks
abbrev pub begins_letter : ℕ → Bool
begins_letter byte = nat_le 195 byte && nat_le byte 225

-- another character beyond ASCII ends with this byte, or an escape of one: a quotation mark, or one of a script without blanks
abbrev pub ends_sign : (before : List SeenByte) → SeenByte → Bool
ends_sign before one = if one.size == 0 then is_continuation one.byte && not (begins_letter (first_byte before)) else one.counts == 226

-- no word goes on behind these bytes, the last first
abbrev pub ends_word : (before : List SeenByte) → Bool
ends_word [] = true
ends_word (last ∷ before) = last.is_edge || not (is_letter_or_digit last.byte) || ends_sign before last

-- these bytes end with one letter alone
abbrev pub ends_with_drive : (before : List SeenByte) → Bool
ends_with_drive [] = false
ends_with_drive (letter ∷ before) = is_ascii_alphabetic letter.byte && ends_word before

-- these bytes end with `file` alone
abbrev pub ends_with_file : (before : List SeenByte) → Bool
ends_with_file (e ∷ l ∷ i ∷ f ∷ before) = e.byte == 101 && l.byte == 108 && i.byte == 105 && f.byte == 102 && ends_word before
ends_with_file _ = false

-- these bytes begin with one letter, `:` and a path
abbrev pub begins_drive : (text : List ℕ) → Bool
begins_drive (letter ∷ colon ∷ text) = is_ascii_alphabetic letter && colon == 58 && begins_path text
begins_drive _ = false

-- or with `file:` and a path
abbrev pub begins_file : (text : List ℕ) → Bool
begins_file (f ∷ i ∷ l ∷ e ∷ colon ∷ text) = f == 102 && i == 105 && l == 108 && e == 101 && colon == 58 && begins_path text
begins_file _ = false

-- between letters or digits, before which another one stands, or a byte that is of URLs: it's no `b'..'`
abbrev pub is_in_word : (before : List SeenByte) → (text : List ℕ) → Bool
is_in_word (last ∷ other ∷ before) (byte ∷ text) = is_letter_or_digit last.byte && not (is_edge_byte other.byte) && is_letter_or_digit byte
is_in_word _ _ = false

-- a `:` before a path
abbrev pub is_before_path : (one : SeenByte) → (text : List ℕ) → Bool
is_before_path one text = one.byte == 58 && begins_path text

-- a `'` within a word, or an escape of one
abbrev pub is_apostrophe : (before : List SeenByte) → (one : SeenByte) → (text : List ℕ) → Bool
is_apostrophe before one text = one.counts == 39 && is_in_word (drop (one.size - 1) before) text

-- a sign before a drive or `file:`
abbrev pub is_before_root : (before : List SeenByte) → (one : SeenByte) → (text : List ℕ) → Bool
is_before_root before one text = (begins_drive text || begins_file text) && ends_sign before one

-- a byte between these bytes, the last first, and this text
unfoldable pub settled : (before : List SeenByte) → (one : SeenByte) → (text : List ℕ) → SeenByte
settled before one text =
    if is_before_path one text then record one { is_edge = not (ends_with_drive before || ends_with_file before) }
    else if is_apostrophe before one text then record one { counts = 226; is_edge = false }
    else if is_before_root before one text then record one { is_edge = true } else one

unfoldable pub settled_from : (before : List SeenByte) → (text : List ℕ) → (seen : List SeenByte) → List SeenByte
settled_from before text [] = []
settled_from before text (one ∷ seen) = settled before one (drop 1 text) ∷ settled_from (one ∷ before) (drop 1 text) seen

-- what the bytes of a line count as
unfoldable pub seen_of : (line : List ℕ) → List SeenByte
seen_of line = settled_from [] line (counted_from 0 line)
