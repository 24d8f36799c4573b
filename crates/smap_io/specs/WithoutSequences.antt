-- What a source shows without its control sequences.
use Rattle.std.specs.Prelude.{◌≡◌, ◌<◌, ◌≤◌, ℕ, false, true, List, ◌++◌, length, option_map, take, Result, Ok, Err}
use Rattle.std.specs.Io.KnownBytes.{IsAtEnd}
use Rattle.smap_io.specs.Device.{Gives, SourceSeen}
use Rattle.smap_io.specs.declared.device.DeviceFault.{DeviceFault}
use Rattle.smap_io.specs.Sequences.{kept}

-- of what an inner source shows, where `held` came of it and was not given yet, and `most` sequences are still left out
abbrev pub without_seen : (held : List ℕ) → (most : ℕ) → SourceSeen → SourceSeen
without_seen held most inner = record {
  left = option_map (λ left. kept (held ++ left) 0 most) inner.left;
  failed = inner.failed;
}

-- a read of a source that fails from its first failure on, also into an empty room: what it gives, and shows then
abbrev pub ReadsOn : (old new : SourceSeen) (room : List ℕ) → Result ℕ DeviceFault → Type 0
ReadsOn old new room (Ok n) = (n ≤ length room) × Gives old.left new.left (take n room)
    × (n ≡ 0 → 0 < length room → IsAtEnd new.left) × (old.failed ≡ false) × (new.failed ≡ false)
ReadsOn old new room (Err _) = (new.left ≡ old.left) × (new.failed ≡ true)
