-- Counts by source, with some bytes more.
use Rattle.std.specs.Prelude.{ℕ, ◌+◌, List, Option, Some, None, slice_index, slice_set}

-- so many more for this source
abbrev pub one_count_after : List ℕ → (source more : ℕ) → List ℕ
one_count_after counts source more = slice_set counts source (slice_index counts source + more)

-- for their owner, if they have one
abbrev pub counts_after : List ℕ → Option ℕ → (more : ℕ) → List ℕ
counts_after counts None more = counts
counts_after counts (Some source) more = one_count_after counts source more

-- those without an owner
abbrev pub unmapped_after : (unmapped : ℕ) → Option ℕ → (more : ℕ) → ℕ
unmapped_after unmapped None more = unmapped + more
unmapped_after unmapped (Some source) more = unmapped
