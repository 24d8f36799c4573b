-- Words and blanks in the bytes of a text of JavaScript.
use Rattle.std.specs.Prelude.{ℕ, List, Bool, ◌==◌, ◌||◌, nat_lt, drop, take}
use Rattle.std.specs.Char.{is_ascii_alphanumeric, is_ascii_whitespace}
use Rattle.std.specs.List.{prefix_len}

-- a letter, a digit, `_`, `$` or a byte above 0x7F
abbrev pub is_word_byte : ℕ → Bool
is_word_byte c = is_ascii_alphanumeric c || c == 0x5F || c == 0x24 || nat_lt 0x7F c

-- a tab, a line feed, a form feed, a carriage return or a space
abbrev pub is_blank : ℕ → Bool
is_blank c = is_ascii_whitespace c

-- the word that a text begins with, which may be empty, and what is behind it
unfoldable pub word_in : List ℕ → List ℕ
word_in text = take (prefix_len is_word_byte text) text

unfoldable pub behind_word : List ℕ → List ℕ
behind_word text = drop (prefix_len is_word_byte text) text

-- what is behind the blanks that a text begins with
unfoldable pub behind_blanks : List ℕ → List ℕ
behind_blanks text = drop (prefix_len is_blank text) text
