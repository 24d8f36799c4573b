-- What stands for a byte of a text.
use Rattle.std.specs.Prelude.{ℕ, Bool, List, [], ◌∷◌, Option, Some, None, ◌==◌, ◌||◌, nat_lt, if◌then◌else◌}
use Rattle.json.specs.Print.{escape_letter}
use Rattle.smap_text.specs.Shown.{shown_byte}

-- the letter of a byte's short escape in JSON, where it has one
abbrev pub short_escape : ℕ → Option ℕ
short_escape byte = if nat_lt 0 (escape_letter byte) then Some (escape_letter byte) else None

-- something else stands in quotes for a byte
abbrev pub is_escaped : ℕ → Bool
is_escaped byte = nat_lt byte 32 || byte == 34 || byte == 92

-- what a byte prints as, alone
abbrev pub shown_piece : ℕ → List ℕ
shown_piece byte = shown_byte byte ∷ []
