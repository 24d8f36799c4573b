-- The limits of this project's profile of ECMA-426, which are its own.
use Rattle.std.specs.Prelude.{ℕ, ◌+◌}

-- the greatest line, column or index, and the greatest magnitude of a difference
abbrev pub limit : ℕ
limit = 2147483647

-- how many indices there are, from 0 to the limit
abbrev pub most_indices : ℕ
most_indices = limit + 1

-- how many digits a number has at most
abbrev pub most_digits : ℕ
most_digits = 7

-- how many bytes a text has at most, which is 64 MiB
abbrev pub most_text_bytes : ℕ
most_text_bytes = 67108864
