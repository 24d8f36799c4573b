-- What a contract sees of a device, and what a call does to the bytes that it shows: those that a source has left, and those
-- that a sink has taken. A device that shows none has `None`.
use Rattle.std.specs.Prelude.{◌≡◌, ℕ, ◌≤◌, Bool, List, ◌++◌, length, Option}
use Rattle.std.specs.Io.KnownBytes.{prepend_known, append_known}

-- of a source: the bytes that it has left, where it shows them, and whether a call has failed
pub record SourceSeen : Type 0 where
  pub left : Option (List ℕ)
  pub failed : Bool

-- of a sink: the bytes that it has taken, where it shows them, whether it was flushed after the last of them, and whether
-- a call has failed
pub record SinkSeen : Type 0 where
  pub taken : Option (List ℕ)
  pub flushed : Bool
  pub failed : Bool

-- a read gave these bytes: they stood before those that are left
abbrev pub Gives : (old new : Option (List ℕ)) → List ℕ → Type 0
Gives old new bytes = old ≡ prepend_known bytes new

-- a write took these bytes: they stand after those that were taken before
abbrev pub Takes : (old new : Option (List ℕ)) → List ℕ → Type 0
Takes old new bytes = new ≡ append_known old bytes

-- a sink took a front of these bytes
abbrev pub TakesFront : (old new : Option (List ℕ)) → List ℕ → Type 0
TakesFront old new bytes = (front rest : List ℕ) × (bytes ≡ front ++ rest) × Takes old new front

-- a source gave at most so many bytes
abbrev pub GivesAtMost : (old new : Option (List ℕ)) → ℕ → Type 0
GivesAtMost old new most = (bytes : List ℕ) × Gives old new bytes × (length bytes ≤ most)
