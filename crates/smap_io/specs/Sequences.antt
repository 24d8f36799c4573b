-- A text without its control sequences (ECMA-48): ESC, `[`, any parameter bytes, any intermediate bytes, and one final byte.
use Rattle.std.specs.Prelude.{◌≡◌, ◌<◌, ℕ, zero, suc, ◌-◌, ◌==◌, ◌&&◌, ◌||◌, ◌^◌, Bool, true, false, not, List, [], ◌∷◌, length, nat_le}
use Rattle.std.specs.Prelude.{if◌then◌else◌}

abbrev pub is_parameter_byte : ℕ → Bool
is_parameter_byte byte = nat_le 48 byte && nat_le byte 63

abbrev pub is_intermediate_byte : ℕ → Bool
is_intermediate_byte byte = nat_le 32 byte && nat_le byte 47

abbrev pub is_final_byte : ℕ → Bool
is_final_byte byte = nat_le 64 byte && nat_le byte 126

-- how many bytes a sequence may have; what is longer is none
abbrev pub most_sequence_bytes : ℕ
most_sequence_bytes = 128

-- how many sequences of a text are left out, and more than a text can have; those behind them stay
abbrev pub most_sequences : ℕ
most_sequences = 2 ^ 64 - 1

-- one more than a count that is not 0
abbrev pub one_more : ℕ → ℕ
one_more zero = zero
one_more (suc count) = suc (suc count)

-- the byte may stand before the final one: no parameter byte does behind an intermediate one
abbrev pub goes_on : (is_intermediate : Bool) → ℕ → Bool
goes_on is_intermediate byte = is_intermediate_byte byte || (is_parameter_byte byte && not is_intermediate)

-- how many bytes at the front of a text end a sequence, of at most `most`; 0 where they end none
unfoldable pub ending_length : List ℕ → (most : ℕ) → (is_intermediate : Bool) → ℕ
ending_length [] most is_intermediate = 0
ending_length (byte ∷ bytes) zero is_intermediate = 0
ending_length (byte ∷ bytes) (suc most) is_intermediate =
    if is_final_byte byte then 1
    else (if goes_on is_intermediate byte then one_more (ending_length bytes most (is_intermediate_byte byte)) else 0)

-- the same behind an ESC, with a `[` first
abbrev pub introduced_length : List ℕ → ℕ
introduced_length [] = 0
introduced_length (byte ∷ bytes) = if byte == 91 then one_more (ending_length bytes (most_sequence_bytes - 2) false) else 0

-- how many bytes the sequence at the front of a text has; 0 where there is none, as where the text ends in it
abbrev pub sequence_length : List ℕ → ℕ
sequence_length [] = 0
sequence_length (byte ∷ bytes) = if byte == 27 then one_more (introduced_length bytes) else 0

-- ---- what may still become one

-- behind an ESC and a `[`: a final byte may follow these
abbrev pub may_end : List ℕ → (is_intermediate : Bool) → Bool
may_end [] is_intermediate = true
may_end (byte ∷ bytes) is_intermediate = goes_on is_intermediate byte && may_end bytes (is_intermediate_byte byte)

-- behind an ESC
abbrev pub may_go_on : List ℕ → Bool
may_go_on [] = true
may_go_on (byte ∷ bytes) = byte == 91 && may_end bytes false

-- bytes with which a sequence may begin, and that are none yet
abbrev pub may_become : List ℕ → Bool
may_become [] = true
may_become (byte ∷ bytes) = byte == 27 && may_go_on bytes

-- they may still become one, and are fewer bytes than one may have
abbrev pub IsWaiting : List ℕ → Type 0
IsWaiting bytes = (length bytes < most_sequence_bytes) × (may_become bytes ≡ true)

-- ---- a text without them

-- a byte and what follows it, of which this sequence is left out, where there is one and some may be left out
abbrev pub kept_byte : (byte length most : ℕ) → (rest : (gone most : ℕ) → List ℕ) → List ℕ
kept_byte byte zero most rest = byte ∷ rest 0 most
kept_byte byte (suc length) zero rest = byte ∷ rest 0 0
kept_byte byte (suc length) (suc most) rest = rest length most

-- a text without its first `most` sequences, and without its first `gone` bytes
unfoldable pub kept : List ℕ → (gone most : ℕ) → List ℕ
kept [] gone most = []
kept (byte ∷ bytes) (suc gone) most = kept bytes gone most
kept (byte ∷ bytes) zero most = kept_byte byte (sequence_length (byte ∷ bytes)) most (λ gone most. kept bytes gone most)

-- a text without its sequences
abbrev pub without_sequences : List ℕ → List ℕ
without_sequences text = kept text 0 most_sequences
