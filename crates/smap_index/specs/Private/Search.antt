-- What the search over a table in order finds on either side of a bound, and so the walk after a checkpoint.
use Rattle.std.specs.Prelude.{ℕ, ◌+◌, ◌≤◌, List, Option, Some, None, Bool, not, ◌==◌, nat_lt, nat_le, if◌then◌else◌, map, take, length, slice_get}
use Rattle.std.specs.List.{last_or, prefix_len}
use Rattle.std.specs.Option.{option_map_or}
use Rattle.smap_mappings.specs.Range.{position_at, stands_before}
use Rattle.smap_mappings.specs.declared.mapping.Mapping.{Mapping}
use Rattle.smap_index.specs.declared.bound.Bound.{Bound}
use Rattle.smap_index.specs.declared.bound.Side.{Side}
use Rattle.smap_index.specs.declared.bound.Side.TheVariants.{Before, Through}
use Rattle.smap_index.specs.declared.checkpoint.Checkpoint.{Checkpoint}
use Rattle.smap_index.specs.declared.stretch.Stretch.{Stretch}
use Rattle.smap_index.specs.Checkpoint.{mapping_of}

-- the mappings of these checkpoints
abbrev pub mappings_at : List Checkpoint → List Mapping
mappings_at checkpoints = map mapping_of checkpoints

-- a mapping stands before a position or, on the other side, at it or before it
abbrev pub is_on_side : Side → (position mapping : Mapping) → Bool
is_on_side Before position mapping = stands_before mapping position
is_on_side Through position mapping = not (stands_before position mapping)

-- the mapping stands up to the bound
abbrev pub is_up_to : Bound → Mapping → Bool
is_up_to bound mapping = is_on_side bound.side (position_at bound.line bound.column) mapping

-- the column before which a mapping on the position's line is on this side of it
abbrev pub end_on_side : Side → ℕ → ℕ
end_on_side Before column = column
end_on_side Through column = column + 1

-- the column on the bound's line before which a mapping stands up to the bound
abbrev pub end_of : Bound → ℕ
end_of bound = end_on_side bound.side bound.column

-- the bounds in front of a position and behind it
abbrev pub up_to : (line column : ℕ) → Bound
up_to line column = record { line = line; column = column; side = Before }

abbrev pub through : (line column : ℕ) → Bound
through line column = record { line = line; column = column; side = Through }

-- the bound on a line: the end of one before its own, and else itself
abbrev pub bound_on : ℕ → Bound → Bound
bound_on line bound = if nat_lt line bound.line then through line 4294967295 else bound

-- the mapping, where it stands on this line
abbrev pub on_line : ℕ → Option Mapping → Option Mapping
on_line line None = None
on_line line (Some mapping) = if mapping.line == line then Some mapping else None

-- the mapping, where it stands on this line or on one after it
abbrev pub from_line : ℕ → Option Mapping → Option Mapping
from_line line None = None
from_line line (Some mapping) = if nat_le line mapping.line then Some mapping else None

-- how many mappings at the front stand up to the bound
abbrev pub front_up_to : Bound → List Mapping → ℕ
front_up_to bound list = prefix_len (is_up_to bound) list

-- the last of them, or this one where there is none
abbrev pub last_from : Bound → Option Mapping → List Mapping → Option Mapping
last_from bound mapping list = last_or mapping (take (front_up_to bound list) list)

-- the last of them
abbrev pub last_up_to : Bound → List Mapping → Option Mapping
last_up_to bound list = last_from bound None list

-- the first after them
abbrev pub first_past : Bound → List Mapping → Option Mapping
first_past bound list = slice_get list (front_up_to bound list)

-- of a table, the last checkpoint whose mapping stands up to the bound
abbrev pub last_checkpoint : Bound → List Checkpoint → Option Checkpoint
last_checkpoint bound checkpoints = last_or None (take (front_up_to bound (mappings_at checkpoints)) checkpoints)

-- and the first after it
abbrev pub next_checkpoint : Bound → List Checkpoint → Option Checkpoint
next_checkpoint bound checkpoints = slice_get checkpoints (front_up_to bound (mappings_at checkpoints))

-- ---- in a stretch of the table

-- the last of so many checkpoints at the front, where it has this number or a higher one
abbrev pub last_in : ℕ → ℕ → List Checkpoint → Option Checkpoint
last_in low count checkpoints = if nat_lt low count then last_or None (take count checkpoints) else None

-- the checkpoint of this number, where it is below that one
abbrev pub next_in : ℕ → ℕ → List Checkpoint → Option Checkpoint
next_in place high checkpoints = if nat_lt place high then slice_get checkpoints place else None

-- the stretch has each checkpoint from this line up to that one, the line itself too
pub record HoldsLines (checkpoints : List Checkpoint) (from to : ℕ) (stretch : Stretch) : Type 0 where
  pub before : stretch.low ≤ front_up_to (up_to from 0) (mappings_at checkpoints)
  pub behind : front_up_to (up_to (to + 1) 0) (mappings_at checkpoints) ≤ stretch.high
  pub within : stretch.high ≤ length checkpoints

-- the lines of these checkpoints
abbrev pub lines_at : List Checkpoint → List ℕ
lines_at checkpoints = map (λ checkpoint. checkpoint.line) checkpoints

-- the stretch of a line where these are the starts of the first lines, of so many checkpoints
abbrev pub stretch_of : List ℕ → ℕ → ℕ → Stretch
stretch_of starts line count = record {
  low = option_map_or (λ start. start) (slice_get starts line) 0;
  high = option_map_or (λ next. next) (slice_get starts (line + 1)) count;
}
