-- Of private contracts only: the part of a text that is held while it is read.
use Rattle.std.specs.Prelude.{◌≡◌, ℕ, List, ◌++◌, Option, length}
use Rattle.smap_io.specs.Device.{Gives}

-- its bytes, and how many it has room for
pub record WindowState : Type 0 where
  pub bytes : List ℕ
  pub size : ℕ

-- so many bytes that a source gave stand behind those that were there
pub record ReadInto (before after : Option (List ℕ)) (old new : WindowState) (count : ℕ) : Type 0 where
  pub more : List ℕ
  pub given : Gives before after more
  pub counted : length more ≡ count
  pub is : new ≡ record { bytes = old.bytes ++ more; size = old.size }
