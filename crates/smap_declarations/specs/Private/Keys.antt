-- The first bytes of a name as one number, its key.
use Rattle.std.specs.Prelude.{◌≡◌, ℕ, ◌+◌, ◌*◌, ◌<◌, zero, suc, List, [], ◌∷◌, get_or}

-- a number with so many bytes of a text behind it, and zeros where the text has no more
unfoldable pub followed_by : (count number : ℕ) → List ℕ → ℕ
followed_by zero number text = number
followed_by (suc count) number [] = followed_by count (number * 256) []
followed_by (suc count) number (c ∷ text) = followed_by count (number * 256 + c) text

abbrev pub key_of : (name : List ℕ) → ℕ
key_of name = followed_by 8 0 name

abbrev pub AreBytes : (text : List ℕ) → Type 0
AreBytes text = (i : ℕ) → get_or text i 0 < 256

-- a number is the key of a name
abbrev pub IsKey : (name : List ℕ) → (key : ℕ) → Type 0
IsKey name key = (key ≡ key_of name) × AreBytes name
