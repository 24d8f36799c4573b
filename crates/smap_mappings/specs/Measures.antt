-- What is measured of how a segment is spelled, where that is wrong.
use Rattle.std.specs.Prelude.{ℕ, List, Option, Bool, ◌/◌, ◌&&◌, not, length}
use Rattle.std.specs.List.{find}
use Rattle.std.specs.Option.{option_map}
use Rattle.smap_mappings.specs.Vlq.{is_digit, is_too_long, is_too_large, unsigned_of}
use Rattle.smap_mappings.specs.Segment.{cuts_of}

-- the first byte that is no digit, where there is one
abbrev pub first_bad_digit : List ℕ → Option ℕ
first_bad_digit bytes = find (λ byte. not (is_digit byte)) bytes

-- how many digits the first number has that has too many, where there is one
abbrev pub long_number_digits : List ℕ → Option ℕ
long_number_digits bytes = option_map length (find is_too_long (cuts_of bytes))

-- the number has not too many digits, and is too large
abbrev pub is_short_too_large : List ℕ → Bool
is_short_too_large digits = not (is_too_long digits) && is_too_large digits

-- the magnitude of a number, without its sign
abbrev pub magnitude_of : List ℕ → ℕ
magnitude_of digits = unsigned_of digits / 2

-- the magnitude of the first number that has not too many digits and is too large, where there is one
abbrev pub large_magnitude : List ℕ → Option ℕ
large_magnitude bytes = option_map magnitude_of (find is_short_too_large (cuts_of bytes))
