-- The pairs of a line (this project's own): numbers behind which stands neither a digit, nor `:` or `-` and a digit, so that
-- of a chain of numbers the last two count, and of a range none; and that do not stand in the brackets of an address,
-- `://[..]`. Each has its piece of the line, which begins where the pair before ends, or with the line.
use Rattle.std.specs.Prelude.{◌≡◌, ◌≤◌, ◌<◌, ℕ, zero, suc, ◌+◌, ◌-◌, ◌==◌, ◌&&◌, ◌||◌, Bool, false, true, nat_eq, List, [], ◌∷◌, Option, Some, None}
use Rattle.std.specs.Prelude.{codes, drop, slice_index, take, if◌then◌else◌}
use Rattle.std.specs.Char.{is_ascii_alphanumeric}
use Rattle.std.specs.List.{list_any, prefix_len, starts_with}
use Rattle.smap_pairs.specs.Numbers.{has_digit, numbers_after}
use Rattle.smap_pairs.specs.declared.pairs.Pair.{Pair}

-- ---- the numbers of a pair

-- a text in which numbers before it go on. None begins with a digit, since numbers have all digits
abbrev pub goes_on : List ℕ → Bool
goes_on [] = false
goes_on (byte ∷ text) = (byte == 58 || byte == 45) && has_digit text

abbrev pub unless_going_on : (text : List ℕ) → Option (ℕ × ℕ × ℕ) → Option (ℕ × ℕ × ℕ)
unless_going_on text None = None
unless_going_on text (Some (line, column, size)) = if goes_on (drop size text) then None else Some (line, column, size)

-- the line and the column of the pair that a text begins with, and how many bytes it has
unfoldable pub pair_numbers : List ℕ → Option (ℕ × ℕ × ℕ)
pair_numbers text = unless_going_on text (numbers_after text)

-- ---- addresses

-- a byte that an address in brackets has: a letter, a digit or one of these signs
abbrev pub is_address_byte : ℕ → Bool
is_address_byte byte = is_ascii_alphanumeric byte || list_any (λ sign. byte == sign) (codes ":.%_~-")

-- how many of the first 64 bytes of a text an address may have
abbrev pub address_length : List ℕ → ℕ
address_length text = prefix_len is_address_byte (take 64 text)

-- how many bytes `://[`, an address and `]` are, where a text begins with them, and else 0
unfoldable pub address_size : List ℕ → ℕ
address_size text =
    if starts_with nat_eq text (codes "://[") && slice_index text (address_length (drop 4 text) + 4) == 93 then address_length (drop 4 text) + 5 else 0

-- ---- the pairs of a line

-- those of a text that begins at this byte of its line: the pair there, and those behind it; or those behind the address
-- there
abbrev pub pairs_by : (at piece : ℕ) → (address : ℕ) → (after : (piece within : ℕ) → List Pair) → Option (ℕ × ℕ × ℕ) → List Pair
pairs_by at piece address after None = after piece (address - 1)
pairs_by at piece address after (Some (line, column, size)) =
    record { start = at; end = at + size; piece = piece; line = line; column = column } ∷ after (at + size) (size - 1)

-- those of a text that begins at this byte of its line, whose first bytes, so many, belong to a pair or an address
unfoldable pub pairs_from : (at piece within : ℕ) → (text : List ℕ) → List Pair
pairs_from at piece within [] = []
pairs_from at piece (suc within) (byte ∷ text) = pairs_from (suc at) piece within text
pairs_from at piece zero (byte ∷ text) =
    pairs_by at piece (address_size (byte ∷ text)) (λ piece within. pairs_from (suc at) piece within text) (pair_numbers (byte ∷ text))

-- those behind a byte of a line, at which a piece begins
abbrev pub pairs_behind : (line : List ℕ) → (piece : ℕ) → List Pair
pairs_behind line piece = pairs_from piece piece 0 (drop piece line)

abbrev pub pairs_of : (line : List ℕ) → List Pair
pairs_of line = pairs_behind line 0

-- ---- how they stand

-- pairs in the first bytes of a line, so many, each behind its piece, which begins where the pair before ends
abbrev pub AreInOrder : (piece bytes : ℕ) → List Pair → Type 0
AreInOrder piece bytes [] = Unit {0}
AreInOrder piece bytes (pair ∷ pairs) =
    (pair.piece ≡ piece) × (piece ≤ pair.start) × (pair.start < pair.end) × (pair.end ≤ bytes) × AreInOrder pair.end bytes pairs

-- ---- which they are

-- a byte of a line stands in an address
abbrev pub InAddress : (line : List ℕ) → (at : ℕ) → Type 0
InAddress line at = (begin : ℕ) × (begin ≤ at) × (at < begin + address_size (drop begin line))

-- a pair has the numbers at its first byte, which stands in no address
pub record IsPairOf (line : List ℕ) (pair : Pair) : Type 0 where
  pub numbers : pair_numbers (drop pair.start line) ≡ Some (pair.line, pair.column, pair.end - pair.start)
  pub is_outside : InAddress line pair.start → ⊥

-- one of these pairs begins at this byte
abbrev pub HasPairAt : (start : ℕ) → List Pair → Type 0
HasPairAt start pairs = list_any (λ pair. pair.start == start) pairs ≡ true
