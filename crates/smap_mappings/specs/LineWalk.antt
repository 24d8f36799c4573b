-- A walk along a line: over the segments after a state that stand on its line before a column.
use Rattle.std.specs.Prelude.{◌≡◌, ℕ, ◌+◌, ◌-◌, ◌<◌, ◌≤◌, ◌⊎◌, List, Option, Some, None, slice_get, IfSome, MatchOption}
use Rattle.smap_mappings.specs.Mappings.{mappings_of}
use Rattle.smap_mappings.specs.State.{mapping_at, IsAfter, IsOnLaterLine}
use Rattle.smap_mappings.specs.declared.cursor.Cursor.{Cursor}
use Rattle.smap_mappings.specs.declared.kind.Kind.{Kind}
use Rattle.smap_mappings.specs.declared.line_walk.LineWalk.{LineWalk}
use Rattle.smap_mappings.specs.declared.mapping.Mapping.{Mapping}

-- from the state after j segments on, this many segments stand on its line before the column, the last of them has this
-- much, and this is the state after it
pub record IsPassed (text : List ℕ) (j : ℕ) (start : Cursor) (end passed : ℕ) (kind : Kind) (state : Cursor) : Type 0 where
  pub after : IsAfter text (j + passed) state
  pub line : state.line ≡ start.line
  pub before : (i : ℕ) (mapping : Mapping) → i < passed → slice_get (mappings_of text) (j + i) ≡ Some mapping
      → (mapping.line ≡ start.line) × (mapping.column < end)
  pub last : 0 < passed → slice_get (mappings_of text) (j + passed - 1) ≡ Some (mapping_at kind state)

-- the next segment stands on the line, and not before the column
pub record IsStop (text : List ℕ) (j : ℕ) (start : Cursor) (end : ℕ) (mapping : Mapping) : Type 0 where
  pub mapping_is : slice_get (mappings_of text) j ≡ Some mapping
  pub line : mapping.line ≡ start.line
  pub past : end ≤ mapping.column

-- the walk passed the segments that stand on the line before the column, or as many as it may, and stopped at the next
-- one, where that is on the line, with the state after that
pub record IsWalked (text : List ℕ) (j : ℕ) (start : Cursor) (end most : ℕ) (walk : LineWalk) : Type 0 where
  pub few : walk.passed ≤ most
  pub passed : IsPassed text j start end walk.passed walk.kind walk.state
  pub stops : MatchOption walk.next
      ((walk.passed ≡ most) ⊎ IsOnLaterLine text (j + walk.passed) start.line)
      (λ next. IsStop text (j + walk.passed) start end (mapping_at next.0 next.1))
  pub next_after : IfSome walk.next (λ next. IsAfter text (j + walk.passed + 1) next.1)

-- how many segments the walk decoded, when it stopped at this one
abbrev pub decoded_with : ℕ → Option (Kind × Cursor) → ℕ
decoded_with passed None = passed
decoded_with passed (Some next) = passed + 1

-- how many segments the walk decoded
abbrev pub decoded_in : LineWalk → ℕ
decoded_in walk = decoded_with walk.passed walk.next
