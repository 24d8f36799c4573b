-- Whether a URL begins at a root: with a `/`, `./`, `../`, `~/`, or a scheme, which a drive is here, and `:/`.
use Rattle.std.specs.Prelude.{ℕ, ◌==◌, ◌&&◌, ◌||◌, Bool, false, List, [], ◌∷◌, if◌then◌else◌}
use Rattle.std.specs.Char.{is_ascii_alphabetic, is_ascii_alphanumeric}

abbrev pub begins_with_slash : List ℕ → Bool
begins_with_slash [] = false
begins_with_slash (byte ∷ url) = byte == 47

abbrev pub is_behind_dot : List ℕ → Bool
is_behind_dot [] = false
is_behind_dot (byte ∷ url) = byte == 47 || byte == 46 && begins_with_slash url

abbrev pub is_scheme_byte : ℕ → Bool
is_scheme_byte byte = is_ascii_alphanumeric byte || byte == 43 || byte == 45 || byte == 46

unfoldable pub is_behind_scheme : List ℕ → Bool
is_behind_scheme [] = false
is_behind_scheme (byte ∷ url) = if byte == 58 then begins_with_slash url else is_scheme_byte byte && is_behind_scheme url

abbrev pub is_absolute : List ℕ → Bool
is_absolute [] = false
is_absolute (byte ∷ url) =
    byte == 47 || byte == 46 && is_behind_dot url || byte == 126 && begins_with_slash url || is_ascii_alphabetic byte && is_behind_scheme url
