-- What is given of the bytes that came, and what is left of them.
use Rattle.std.specs.Prelude.{◌≡◌, ◌≤◌, ◌<◌, ◌⊎◌, ℕ, ◌+◌, ◌-◌, Bool, MatchBool, List, [], ◌++◌, length, take, drop}
use Rattle.std.specs.Io.KnownBytes.{IsAtEnd}
use Rattle.smap_io.specs.Device.{Gives, SourceSeen}
use Rattle.smap_io.specs.Sequences.{kept}
use Rattle.smap_io.specs.Private.Front.{IsFront}
use Rattle.smap_io.specs.declared.front.Front.TheVariants.{Open}
use Rattle.smap_io.specs.declared.telling.Told.{Told}

-- of the old bytes these were given and the new ones are left, whatever follows them, with so many sequences to leave out
abbrev pub IsGiven : (old : List ℕ) (old_most : ℕ) (given new : List ℕ) (new_most : ℕ) → Type 0
IsGiven old old_most given new new_most =
    (more : List ℕ) → kept (old ++ more) 0 old_most ≡ given ++ kept (new ++ more) 0 new_most

-- the same, where nothing follows them
abbrev pub IsLastGiven : (old : List ℕ) (old_most : ℕ) (given new : List ℕ) (new_most : ℕ) → Type 0
IsLastGiven old old_most given new new_most = kept old 0 old_most ≡ given ++ kept new 0 new_most

-- a sequence was left out, or all stays
abbrev pub IsNearer : (old : List ℕ) (old_most : ℕ) (new : List ℕ) (new_most : ℕ) → Type 0
IsNearer old old_most new new_most = (new_most < old_most) ⊎ ((new_most ≡ old_most) × (new ≡ old))

-- this was told of the bytes into a room, which is `room` then
pub record Tells (bytes : List ℕ) (most : ℕ) (room : List ℕ) (told : Told) : Type 0 where
  pub fits : told.count ≤ length room
  pub within : told.left ≤ length bytes
  pub few : told.count + told.left ≤ length bytes
  pub given : IsGiven bytes most (take told.count room) (drop (length bytes - told.left) bytes) told.most
  pub undecided : told.count ≡ 0 → 0 < length room → IsFront (drop (length bytes - told.left) bytes) told.most Open
  pub nearer : told.count ≡ 0 → IsNearer bytes most (drop (length bytes - told.left) bytes) told.most

-- more came of the inner source, or it is at its end
abbrev pub IsMore : (before after : SourceSeen) (old new : List ℕ) → (some : Bool) → Type 0
IsMore before after old new some =
    (bytes : List ℕ) × Gives before.left after.left bytes × (new ≡ old ++ bytes)
    × MatchBool some (0 < length bytes) ((bytes ≡ []) × IsAtEnd after.left)
