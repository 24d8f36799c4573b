-- How much is shown of a line.
use Rattle.std.specs.Prelude.{◌<◌, ◌≤◌, ℕ, List, if◌then◌else◌, length, nat_le}
use Rattle.std.specs.Fmt.Cut.{floor_char_boundary}
use Rattle.std.specs.Str.{IsCharBoundary}

-- of the bytes of a line so many stand before the last place within 65,536 at which a character begins or the line ends
pub record IsFrontOf (line : List ℕ) (bytes : ℕ) : Type 0 where
  pub boundary : IsCharBoundary line bytes
  pub within : bytes ≤ 65536
  pub last : (byte : ℕ) → bytes < byte → byte ≤ 65536 → IsCharBoundary line byte → ⊥

-- how many these are
abbrev pub shown_bytes : (line : List ℕ) → ℕ
shown_bytes line = if nat_le (length line) 65536 then length line else floor_char_boundary line 65536
