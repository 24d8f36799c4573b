-- A source in memory, and what a read does to it.
use Rattle.std.specs.Prelude.{◌≡◌, ◌≢◌, ℕ, ◌-◌, Bool, true, List, ◌++◌, length, take, drop, min, Result, Ok, Err}
use Rattle.smap_io.specs.declared.device.DeviceFault.{DeviceFault}

-- what a contract sees of a `MemorySource`
pub record SourceState : Type 0 where
  pub left : List ℕ
  -- at most so many bytes pass at a call
  pub piece : ℕ
  -- the call that fails, counted from the next one, which is 1; 0 where none does
  pub fails_in : ℕ
  pub failed : Bool

-- how many bytes the next read gives into this room, unless it fails
abbrev pub read_count : SourceState → List ℕ → ℕ
read_count source room = min (min source.piece (length room)) (length source.left)

-- a read of the old source into a room, which is `before` and then `after`
abbrev pub Reads : (old new : SourceState) (before after : List ℕ) → Result ℕ DeviceFault → Type 0
Reads old new before after (Ok n) =
    (old.fails_in ≢ 1) × (n ≡ read_count old before) × (after ≡ take n old.left ++ drop n before)
    × (new ≡ record old { left = drop n old.left; fails_in = old.fails_in - 1 })
Reads old new before after (Err _) =
    (old.fails_in ≡ 1) × (after ≡ before) × (new ≡ record old { fails_in = 0; failed = true })
