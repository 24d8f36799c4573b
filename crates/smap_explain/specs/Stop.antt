-- Where the reader of a JSON text stopped, as a place of the file, with the text about it.
use Rattle.std.specs.Prelude.{◌≡◌, ◌≤◌, ℕ, suc, ◌+◌, ◌-◌, List, Option, None, IsSomeAnd, MatchOption, length, min, take, drop, slice_range, string_bytes}
use Rattle.std.specs.Option.{option_map_or}
use Rattle.std.specs.Str.Lossy.{utf8_lossy}
use Rattle.memchr.specs.Find.{IsLastByte, is_byte, places}
use Rattle.smap_record.specs.FileText.{json_text, value_of_file}
use Rattle.smap_explain.specs.declared.explanation.JsonStop.{JsonStop}

-- ---- the line and the column

-- the line after these bytes, from 1: one more than they have LFs
abbrev pub line_after : List ℕ → ℕ
line_after front = length (places (is_byte 10) front) + 1

-- the column after these bytes, from 1: one more than how many stand after the last LF
pub record IsColumnAfter (front : List ℕ) (column : ℕ) : Type 0 where
  pub last : Option ℕ
  pub is_last : IsLastByte (is_byte 10) front last
  pub counts : column + option_map_or suc last 0 ≡ length front + 1

-- ---- the text about it

-- the 20 bytes before a place, or as many as there are, with U+FFFD for what is cut of a character
abbrev pub text_before : List ℕ → ℕ → List ℕ
text_before text at = utf8_lossy (slice_range text (at - 20) at)

-- the 20 bytes from it on, or as many as there are
abbrev pub text_after : List ℕ → ℕ → List ℕ
text_after text at = utf8_lossy (slice_range text at (min (at + 20) (length text)))

-- ---- the stop

-- this byte of the JSON text of the file, as a byte of the file, with its line, its column and the text about it
pub record IsStopAt (bytes : List ℕ) (at : ℕ) (stop : JsonStop) : Type 0 where
  pub in_text : at ≤ length (json_text bytes)
  pub in_file : stop.byte ≤ length bytes
  pub follows : drop stop.byte bytes ≡ drop at (json_text bytes)
  pub line : stop.line ≡ line_after (take stop.byte bytes)
  pub column : IsColumnAfter (take stop.byte bytes) stop.column
  pub before : string_bytes stop.before ≡ text_before (json_text bytes) at
  pub after : string_bytes stop.after ≡ text_after (json_text bytes) at

-- it is at some byte of the JSON text: at which one, and whether the text was cut there, is the reader's word alone
pub record IsStopIn (bytes : List ℕ) (stop : JsonStop) : Type 0 where
  pub at : ℕ
  pub is_there : IsStopAt bytes at stop

-- a file that is no JSON text has one, and no other has
abbrev pub IsStopReported : List ℕ → Option JsonStop → Type 0
IsStopReported bytes stop = MatchOption (value_of_file bytes) (IsSomeAnd stop (IsStopIn bytes)) (λ value. stop ≡ None)
