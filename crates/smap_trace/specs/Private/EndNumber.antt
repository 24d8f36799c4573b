-- Of private contracts only: the number that a text ends in.
use Rattle.std.specs.Prelude.{ℕ, List, Option, Some, None, option_map}
use Rattle.smap_lines.specs.Numbers.{decimal_number}
use Rattle.smap_trace.specs.Cuts.{cut_at_last_byte}

abbrev pub with_front : List ℕ → ℕ → List ℕ × ℕ
with_front front n = (front, n)

-- a cut whose second part is a number
abbrev pub with_number : Option (List ℕ × List ℕ) → Option (List ℕ × ℕ)
with_number None = None
with_number (Some (front, digits)) = option_map (with_front front) (decimal_number digits)

-- what stands before the last `:`, and the number behind it
abbrev pub cut_at_number : List ℕ → Option (List ℕ × ℕ)
cut_at_number text = with_number (cut_at_last_byte 58 text)
