-- A sink in memory, and what a write and a flush do to it.
use Rattle.std.specs.Prelude.{◌≡◌, ◌≢◌, ℕ, ◌-◌, ◌<◌, Bool, true, false, List, ◌++◌, length, take, min, Result, Ok, Err, ◌⊎◌}
use Rattle.smap_io.specs.declared.device.DeviceFault.{DeviceFault}

-- what a contract sees of a `MemorySink`
pub record SinkState : Type 0 where
  pub taken : List ℕ
  -- how many bytes still fit
  pub spare : ℕ
  -- at most so many bytes pass at a call
  pub piece : ℕ
  -- the call that fails, counted from the next one, which is 1; 0 where none does
  pub fails_in : ℕ
  pub failed : Bool
  -- the last write or flush was a flush that is Ok
  pub flushed : Bool

-- how many of these bytes the next write takes, unless it fails
abbrev pub write_count : SinkState → List ℕ → ℕ
write_count sink bytes = min (min sink.piece (length bytes)) sink.spare

-- there are bytes to write, and none fits
abbrev pub IsTooFull : SinkState → List ℕ → Type 0
IsTooFull sink bytes = (sink.spare ≡ 0) × (0 < length bytes)

-- a write of these bytes
abbrev pub Writes : (old new : SinkState) (bytes : List ℕ) → Result ℕ DeviceFault → Type 0
Writes old new bytes (Ok n) =
    (old.fails_in ≢ 1) × (¬ (IsTooFull old bytes)) × (n ≡ write_count old bytes)
    × (new ≡ record old { taken = old.taken ++ take n bytes; spare = old.spare - n; fails_in = old.fails_in - 1; flushed = false })
Writes old new bytes (Err _) =
    ((old.fails_in ≡ 1) ⊎ IsTooFull old bytes)
    × (new ≡ record old { fails_in = old.fails_in - 1; failed = true; flushed = false })

-- a flush
abbrev pub Flushes : (old new : SinkState) → Result Unit DeviceFault → Type 0
Flushes old new (Ok _) = (old.fails_in ≢ 1) × (new ≡ record old { fails_in = old.fails_in - 1; flushed = true })
Flushes old new (Err _) = (old.fails_in ≡ 1) × (new ≡ record old { fails_in = 0; failed = true; flushed = false })
