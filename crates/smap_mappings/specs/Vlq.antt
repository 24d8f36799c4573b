-- Base64 VLQ numbers (ECMA-426, Base64 VLQ), in this project's profile: at most seven digits, a magnitude of
-- at most 2147483647, no negative zero, and longer spellings than needed within the seven digits.
use Rattle.std.specs.Prelude.{◌≡◌, ℕ, ◌+◌, ◌*◌, ◌/◌, ◌%◌, ◌^◌, List, [], ◌∷◌, length, take, drop, Option, Some, None, Result, Ok, Err, Bool, false}
use Rattle.std.specs.Prelude.{◌&&◌, not, ◌==◌, nat_le, nat_lt, if◌then◌else◌, unwrap_or, is_some, ℤ, pos, neg_ℤ, slice_index}
use Rattle.std.specs.List.{prefix_len}
use Rattle.smap_mappings.specs.Limits.{limit, most_digits}
use Rattle.smap_mappings.specs.Base64.{digit_of}
use Rattle.smap_mappings.specs.declared.vlq.VlqFault.{VlqFault}
use Rattle.smap_mappings.specs.declared.vlq.VlqFault.TheVariants.{BadDigit, Unended, TooLong, TooLarge, NegativeZero}

-- ---- digits

-- the value of a digit, and 0 for a byte that is none
abbrev pub digit_value : ℕ → ℕ
digit_value byte = unwrap_or (digit_of byte) 0

-- the byte is one of the alphabet
abbrev pub is_digit : ℕ → Bool
is_digit byte = is_some (digit_of byte)

-- a digit of 32 or more says that another digit follows
abbrev pub is_continuing : ℕ → Bool
is_continuing byte = is_digit byte && nat_le 32 (digit_value byte)

-- a digit below 32 ends the number
abbrev pub is_ending : ℕ → Bool
is_ending byte = is_digit byte && nat_lt (digit_value byte) 32

-- ---- the number that digits spell

-- all bytes but the last are digits that continue, and the last is one that ends
abbrev pub is_one_number : List ℕ → Bool
is_one_number [] = false
is_one_number (byte ∷ []) = is_ending byte
is_one_number (byte ∷ next ∷ bytes) = is_continuing byte && is_one_number (next ∷ bytes)

-- the sum of the digits' low five bits, the first digit's counting 32 to the power i
abbrev pub digit_sum : ℕ → List ℕ → ℕ
digit_sum i [] = 0
digit_sum i (byte ∷ bytes) = digit_value byte % 32 * 32 ^ i + digit_sum (i + 1) bytes

-- the digits as one number, the least significant first; its lowest bit is the sign
unfoldable pub unsigned_of : List ℕ → ℕ
unsigned_of bytes = digit_sum 0 bytes

-- the number of an unsigned value, whose lowest bit is the sign
abbrev pub signed_number : ℕ → ℤ
signed_number u = if u % 2 == 0 then pos (u / 2) else neg_ℤ (pos (u / 2))

-- ---- what this project's profile refuses

-- there are more than seven digits
abbrev pub is_too_long : List ℕ → Bool
is_too_long digits = nat_lt most_digits (length digits)

-- the magnitude is past 2147483647
abbrev pub is_too_large : List ℕ → Bool
is_too_large digits = nat_lt limit (unsigned_of digits / 2)

-- the number is zero, and its sign says negative
abbrev pub is_negative_zero : List ℕ → Bool
is_negative_zero digits = unsigned_of digits == 1

-- the number that the bytes spell, if they spell one
unfoldable pub number_of : List ℕ → Option ℤ
number_of bytes =
    if is_one_number bytes && not (is_too_long bytes) && not (is_too_large bytes) && not (is_negative_zero bytes)
    then Some (signed_number (unsigned_of bytes))
    else None

-- these bytes spell this number
abbrev pub Spells : List ℕ → ℤ → Type 0
Spells bytes n = number_of bytes ≡ Some n

-- ---- reading at a place

-- What reading a number at a place gives: the number and the place after it, or the first fault that holds. The
-- first byte that is no digit that continues decides.
unfoldable pub number_at : List ℕ → ℕ → Result (ℤ × ℕ) VlqFault
number_at bytes place =
    let rest = drop place bytes in
    let front = prefix_len is_continuing rest in
    let digits = take (front + 1) rest in
    if front == length rest then Err Unended
    else (if not (is_digit (slice_index rest front)) then Err BadDigit
    else (if is_too_long digits then Err TooLong
    else (if is_too_large digits then Err TooLarge
    else (if is_negative_zero digits then Err NegativeZero
    else Ok (signed_number (unsigned_of digits), place + front + 1)))))
