-- The numbers of a place (this project's own): `:`, a line, `:` and a column, in decimal without leading zeros, from 1 to
-- 2147483648, and no digit after them.
use Rattle.std.specs.Prelude.{ℕ, ◌+◌, ◌==◌, Bool, false, List, [], ◌∷◌, Option, Some, None, drop, take, if◌then◌else◌, option_map}
use Rattle.std.specs.Char.{is_ascii_digit}
use Rattle.std.specs.List.{prefix_len}
use Rattle.smap_lines.specs.Numbers.{decimal_number}

-- how many digits a text begins with
abbrev pub digits : List ℕ → ℕ
digits text = prefix_len is_ascii_digit text

-- a text begins with a digit
abbrev pub has_digit : List ℕ → Bool
has_digit [] = false
has_digit (byte ∷ text) = is_ascii_digit byte

-- the number after the `:` that a text begins with, whose digits all belong to it; and how many bytes both are
abbrev pub number_after : List ℕ → Option (ℕ × ℕ)
number_after [] = None
number_after (byte ∷ text) = if byte == 58 then option_map (λ n. (n, digits text + 1)) (decimal_number (take (digits text) text)) else None

abbrev pub with_column : (line size : ℕ) → Option (ℕ × ℕ) → Option (ℕ × ℕ × ℕ)
with_column line size None = None
with_column line size (Some (column, more)) = Some (line, column, size + more)

abbrev pub with_line : List ℕ → Option (ℕ × ℕ) → Option (ℕ × ℕ × ℕ)
with_line text None = None
with_line text (Some (line, size)) = with_column line size (number_after (drop size text))

-- the numbers that a text begins with: a line, a column, and how many bytes they are with the `:` before each
unfoldable pub numbers_after : List ℕ → Option (ℕ × ℕ × ℕ)
numbers_after text = with_line text (number_after text)
