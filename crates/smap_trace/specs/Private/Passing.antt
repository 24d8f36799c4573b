-- How many places were passed.
use Rattle.std.specs.Prelude.{ℕ, ◌+◌, if◌then◌else◌, min, nat_lt}

-- so many and so many more, up to a number; none more where there are as many
abbrev pub passed_after : (most passed more : ℕ) → ℕ
passed_after most passed more = if nat_lt passed most then min most (passed + more) else passed
