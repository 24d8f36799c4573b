-- Colours: control sequences of a terminal, as ESC `[31;1m`. Their ESC may be an escape.
use Rattle.std.specs.Prelude.{ℕ, zero, suc, ◌+◌, ◌==◌, ◌||◌, Bool, List, [], ◌∷◌, Option, Some, None, if◌then◌else◌}
use Rattle.std.specs.Char.{is_ascii_digit}

-- a digit or a `;`
abbrev pub is_parameter : ℕ → Bool
is_parameter byte = is_ascii_digit byte || byte == 59

-- how many bytes a colour has, of which so many are read, fewer than so many parameters are left, and this text has the rest
unfoldable pub colour_from : (size many : ℕ) → (text : List ℕ) → Option ℕ
colour_from size zero text = None
colour_from size (suc many) [] = None
colour_from size (suc many) (byte ∷ text) =
    if byte == 109 then Some (size + 1) else if is_parameter byte then colour_from (size + 1) many text else None

-- how many bytes a colour has whose ESC has so many, and behind that stands this text: `[`, at most 32 parameters and `m`
unfoldable pub colour_behind : (size : ℕ) → (text : List ℕ) → Option ℕ
colour_behind size [] = None
colour_behind size (byte ∷ text) = if byte == 91 then colour_from (size + 1) 33 text else None
