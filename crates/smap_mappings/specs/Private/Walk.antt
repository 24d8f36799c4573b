-- How far a check has come.
use Rattle.std.specs.Prelude.{◌≡◌, ℕ, ◌+◌, ◌<◌, ◌≤◌, ◌==◌, List, [], true, length, take}
use Rattle.std.specs.List.{list_any}
use Rattle.smap_mappings.specs.Mappings.{deltas_of}
use Rattle.smap_mappings.specs.Accepted.{are_in_range}
use Rattle.smap_mappings.specs.Faults.{first_faulty}
use Rattle.smap_mappings.specs.Counts.{new_lines}
use Rattle.smap_mappings.specs.State.{mapping_at, values_at, IsAfter, IsNext}
use Rattle.smap_mappings.specs.Private.Step.{faulty_from, IsStep}
use Rattle.smap_mappings.specs.declared.cursor.Cursor.{Cursor}
use Rattle.smap_mappings.specs.declared.kind.Kind.{Kind}
use Rattle.smap_mappings.specs.declared.walk.Walk.{Walk}

-- the segment at the state's place has no fault and has this much, and this is the state after it
pub record IsCleanStep (text : List ℕ) (sources names : ℕ) (cursor : Cursor) (kind : Kind) (after : Cursor) : Type 0 where
  pub ahead : cursor.place < after.place
  pub inside : after.place ≤ length text
  pub line : after.line ≡ cursor.line
  pub in_range : are_in_range (values_at after) ≡ true
  pub steps : (j : ℕ) → IsAfter text j cursor → IsStep text j sources names (mapping_at kind after) after

-- the state is after this many segments, none of which is faulty, on as many lines
pub record ChecksUpTo (text : List ℕ) (sources names : ℕ) (cursor : Cursor) (segments used_lines : ℕ) : Type 0 where
  pub after : IsAfter text segments cursor
  pub passed : first_faulty text sources names ≡ faulty_from text sources names segments
  pub on_line : 0 < segments → list_any (λ delta. delta.line == cursor.line) (take segments (deltas_of text)) ≡ true
  pub lines : used_lines ≡ new_lines [] (take segments (deltas_of text))
  pub few : segments ≤ cursor.place
  pub fewer : used_lines ≤ segments

-- the walk has come so far, and its values are in range
pub record WalksUpTo (text : List ℕ) (sources names : ℕ) (walk : Walk) : Type 0 where
  pub checks : ChecksUpTo text sources names walk.at walk.segments walk.used_lines
  pub in_range : are_in_range (values_at walk.at) ≡ true

-- the walk has come one segment further, which has this much
pub record IsWalkedOn (text : List ℕ) (sources names : ℕ) (walk : Walk) (kind : Kind) (after : Walk) : Type 0 where
  pub walks : WalksUpTo text sources names after
  pub next : IsNext text walk.segments (mapping_at kind after.at) after.at
  pub one : after.segments ≡ walk.segments + 1
  pub onward : walk.at.place < after.at.place
