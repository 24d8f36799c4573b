-- Kinds of bytes.
use Rattle.std.specs.Prelude.{ℕ, ◌==◌, ◌||◌, Bool, not, nat_le, codes}
use Rattle.std.specs.Char.{is_ascii_alphanumeric}
use Rattle.std.specs.List.{list_any}

-- a letter or a digit, as each byte of a character beyond ASCII counts
abbrev pub is_letter_or_digit : ℕ → Bool
is_letter_or_digit byte = is_ascii_alphanumeric byte || nat_le 128 byte

-- a sign that stands in URLs, and behind which none begins
abbrev pub is_url_sign : ℕ → Bool
is_url_sign byte = list_any (λ sign. byte == sign) (codes "_-./\\%~+$:")

-- a byte behind which a URL may begin
abbrev pub is_edge_byte : ℕ → Bool
is_edge_byte byte = not (is_letter_or_digit byte || is_url_sign byte)

-- a blank, or a control byte
abbrev pub is_control : ℕ → Bool
is_control byte = nat_le byte 32 || byte == 127
