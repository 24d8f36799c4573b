-- How a text that is not the program's own prints.
use Rattle.std.specs.Prelude.{ℕ, if◌then◌else◌, List, map}
use Rattle.std.specs.Char.{is_ascii_control}

-- a byte as it prints, or a character: an ASCII control character as `?`
abbrev pub shown_byte : ℕ → ℕ
shown_byte byte = if is_ascii_control byte then 63 else byte

-- a text as it prints
unfoldable pub shown : List ℕ → List ℕ
shown text = map shown_byte text
