-- The place of a UTF-16 column in a line.
use Rattle.std.specs.Prelude.{◌≡◌, ◌+◌, ◌<◌, ℕ, List, length, drop, slice_index}
use Rattle.std.specs.Str.{IsCharBoundary, chars}
use Rattle.smap_text.specs.Units.{units_before, units_in, units_of}
use Rattle.smap_text.specs.declared.place.Place.{Place}
use Rattle.smap_text.specs.declared.place.Place.TheVariants.{At, Inside, Past}

-- so many units stand before the byte, at which a character begins or the line ends
pub record IsAt (line : List ℕ) (column byte : ℕ) : Type 0 where
  pub boundary : IsCharBoundary line byte
  pub units : units_before line byte ≡ column

-- the column is the second unit of the pair that begins at the byte
pub record IsInside (line : List ℕ) (column byte : ℕ) : Type 0 where
  pub boundary : IsCharBoundary line byte
  pub within : byte < length line
  pub pair : units_of (slice_index (chars (drop byte line)) 0) ≡ 2
  pub units : units_before line byte + 1 ≡ column

-- the line has fewer units, and so many
pub record IsPast (line : List ℕ) (column units : ℕ) : Type 0 where
  pub all : units_in line ≡ units
  pub fewer : units < column

abbrev pub IsPlace : (line : List ℕ) (column : ℕ) → Place → Type 0
IsPlace line column (At byte) = IsAt line column byte
IsPlace line column (Inside byte) = IsInside line column byte
IsPlace line column (Past units) = IsPast line column units
