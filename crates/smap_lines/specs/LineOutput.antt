-- What a call that puts bytes does to an output of lines.
use Rattle.std.specs.Prelude.{◌≡◌, ℕ, true, List, ◌++◌, Result, Ok, Err}
use Rattle.smap_io.specs.Device.{SinkSeen, TakesFront}
use Rattle.smap_io.specs.declared.device.DeviceFault.{DeviceFault}
use Rattle.smap_lines.specs.Gathered.{HandsOn}
use Rattle.smap_lines.specs.declared.line_output.LineOutput.{LineOutput}

-- it stays over the same sink and the same room
abbrev pub IsSameOutput : {W : Type 0} → (old new : LineOutput W) → Type 0
IsSameOutput old new = (new.sink.ghost_name ≡ old.sink.ghost_name) × (new.gathered.ghost_name ≡ old.gathered.ghost_name)

-- these bytes stand after those that waited, of which some were handed on
pub record Puts {W : Type 0} (seen : W → SinkSeen) (old new : LineOutput W) (bytes : List ℕ) : Type 0 where
  pub same : IsSameOutput old new
  pub put : HandsOn (seen old.sink.now).taken (seen new.sink.now).taken (old.gathered.now ++ bytes) new.gathered.now
  pub works : (seen new.sink.now).failed ≡ (seen old.sink.now).failed

-- a write failed, and the sink took a front of all of them
pub record FailsToPut {W : Type 0} (seen : W → SinkSeen) (old new : LineOutput W) (bytes : List ℕ) : Type 0 where
  pub same : IsSameOutput old new
  pub front : TakesFront (seen old.sink.now).taken (seen new.sink.now).taken (old.gathered.now ++ bytes)
  pub failed : (seen new.sink.now).failed ≡ true

abbrev pub IsPut : {W T : Type 0} → (seen : W → SinkSeen) → (old new : LineOutput W) (bytes : List ℕ) → Result T DeviceFault → Type 0
IsPut seen old new bytes (Ok done) = Puts seen old new bytes
IsPut seen old new bytes (Err fault) = FailsToPut seen old new bytes

-- one text was put, of which this is so; or a write failed of one that is allowed
abbrev pub IsOnePut : {W T : Type 0} → (seen : W → SinkSeen) → (old new : LineOutput W) → (Allowed IsDone : List ℕ → Type 0) → Result T DeviceFault → Type 0
IsOnePut seen old new Allowed IsDone (Ok done) = (text : List ℕ) × IsDone text × Puts seen old new text
IsOnePut seen old new Allowed IsDone (Err fault) = (text : List ℕ) × Allowed text × FailsToPut seen old new text
