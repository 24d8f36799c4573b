-- What a meter has counted, which is this project's own.
use Rattle.std.specs.Prelude.{ℕ, ◌-◌, ◌^◌, ◌≤◌}

-- how many checkpoints were compared, and how many segments decoded
pub record MeterCounts : Type 0 where
  pub comparisons : ℕ
  pub segments : ℕ

-- the greatest number that a count can be
abbrev pub greatest_count : ℕ
greatest_count = 2 ^ 64 - 1

-- how much one call counts of each at most
abbrev pub most_of_a_call : ℕ
most_of_a_call = 8192

-- both counts leave room for a call: they are at least 8192 below the greatest number
abbrev pub HasRoom : MeterCounts → Type 0
HasRoom counts = (counts.comparisons ≤ greatest_count - most_of_a_call) × (counts.segments ≤ greatest_count - most_of_a_call)
