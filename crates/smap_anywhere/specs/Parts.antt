-- The parts of a text (this project's own): its places, which are a URL, `:`, a line, `:` and a column, and the bytes between them.
use Rattle.std.specs.Prelude.{ℕ, List, [], ◌∷◌, Option}

-- the function of the frame that a place is in: its name, and what stands between it and the place
pub record FrameFunction : Type 0 where
  pub name : List ℕ
  pub behind : List ℕ

-- a place: its URL, its line and its column, which count from 1, and how many bytes it is; and the function before it, where that is
-- sought and stands there
pub record PlaceUrl : Type 0 where
  pub url : List ℕ
  pub line : ℕ
  pub column : ℕ
  pub size : ℕ
  pub function : Option FrameFunction

-- a byte of a text that belongs to no place, or a place with its bytes, before which its function stands
pub data Part : Type 0 where
  other : ℕ → Part
  found : PlaceUrl → (text : List ℕ) → Part

-- its bytes
abbrev pub part_bytes : Part → List ℕ
part_bytes (other byte) = byte ∷ []
part_bytes (found place text) = text
