-- Lines and columns as a line of text prints them: in decimal, without signs or leading zeros. They count from 1.
use Rattle.std.specs.Prelude.{◌≤◌, ℕ, ◌+◌, ◌-◌, ◌*◌, ◌&&◌, nat_lt, nat_le, List, [], ◌∷◌, Option, Some, None, if◌then◌else◌, slice_index}
use Rattle.std.specs.Char.{is_ascii_digit}

-- the greatest line or column that is printed
abbrev pub most_printed : ℕ
most_printed = 2147483648

-- a line or a column as it is printed
abbrev pub IsPrinted : ℕ → Type 0
IsPrinted n = (1 ≤ n) × (n ≤ most_printed)

-- the number that these digits write after those of n, if it is at most 2147483648
abbrev pub read_on : ℕ → List ℕ → Option ℕ
read_on n [] = Some n
read_on n (byte ∷ text) =
    if is_ascii_digit byte && nat_le (10 * n + (byte - 48)) most_printed then read_on (10 * n + (byte - 48)) text else None

-- the number from 1 to 2147483648 that a text writes without leading zeros
abbrev pub decimal_number : List ℕ → Option ℕ
decimal_number text = if nat_lt 48 (slice_index text 0) then read_on 0 text else None
