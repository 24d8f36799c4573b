-- The inside of a string of JSON (RFC 8259): what stands between its quotation marks, read byte by byte. It has no `"` and no byte
-- below 0x20, and a `\` only as `\"`, `\\`, `\/`, `\b`, `\f`, `\n`, `\r`, `\t` or `\u` and four hexadecimal digits.
use Rattle.std.specs.Prelude.{ℕ, zero, suc, ◌==◌, ◌&&◌, ◌||◌, Bool, true, false, not, nat_le, List, [], ◌∷◌, codes, if◌then◌else◌}
use Rattle.std.specs.Char.{is_ascii_hexdigit}
use Rattle.std.specs.List.{list_any}

-- where a byte stands: between two characters, behind the `\` of an escape, or before a digit of `\u` and so many others
pub data InString : Type 0 where
  between : InString
  behind_backslash : InString
  before_digits : (more : ℕ) → InString

-- a byte may stand there
abbrev pub may_stand : InString → (byte : ℕ) → Bool
may_stand between byte = nat_le 32 byte && not (byte == 34)
may_stand behind_backslash byte = byte == 117 || list_any (λ sign. byte == sign) (codes "\"\\/bfnrt")
may_stand (before_digits more) byte = is_ascii_hexdigit byte

-- where the next byte stands behind a digit, behind the first byte of a character, and behind any, allowed there or not
abbrev pub past_digit : (more : ℕ) → InString
past_digit zero = between
past_digit (suc more) = before_digits more

abbrev pub past_first : (byte : ℕ) → InString
past_first byte = if byte == 92 then behind_backslash else between

abbrev pub past : InString → (byte : ℕ) → InString
past between byte = past_first byte
past behind_backslash byte = if byte == 117 then before_digits 3 else between
past (before_digits more) byte = if is_ascii_hexdigit byte then past_digit more else past_first byte

-- the bytes of a text may stand there, one behind the other
abbrev pub all_may_stand : InString → (text : List ℕ) → Bool
all_may_stand state [] = true
all_may_stand state (byte ∷ text) = may_stand state byte && all_may_stand (past state byte) text

-- where a byte stands behind them
abbrev pub past_all : InString → (text : List ℕ) → InString
past_all state [] = state
past_all state (byte ∷ text) = past_all (past state byte) text

abbrev pub is_between : InString → Bool
is_between between = true
is_between _ = false

-- whole characters, and nothing else
abbrev pub is_string_inside : (text : List ℕ) → Bool
is_string_inside text = all_may_stand between text && is_between (past_all between text)

abbrev pub has_quotation_mark : (text : List ℕ) → Bool
has_quotation_mark text = list_any (λ byte. byte == 34) text
