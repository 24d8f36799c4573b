-- A text of a string, with one backslash for each two.
use Rattle.std.specs.Prelude.{ℕ, ◌==◌, ◌&&◌, ◌||◌, Bool, false, List, [], ◌∷◌, if◌then◌else◌}

abbrev pub halved : List ℕ → List ℕ
halved [] = []
halved (byte ∷ []) = byte ∷ []
halved (byte ∷ next ∷ text) = if byte == 92 && next == 92 then byte ∷ halved text else byte ∷ halved (next ∷ text)

-- a text begins with a backslash
abbrev pub begins_with_backslash : List ℕ → Bool
begins_with_backslash [] = false
begins_with_backslash (byte ∷ text) = byte == 92

-- two backslashes stand in a text, one behind the other
abbrev pub has_doubled : List ℕ → Bool
has_doubled [] = false
has_doubled (byte ∷ text) = byte == 92 && begins_with_backslash text || has_doubled text
