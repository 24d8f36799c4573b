-- The lines of a text (ECMAScript, line terminator sequences). A text is a list of characters here.
use Rattle.std.specs.Prelude.{◌≡◌, ℕ, Bool, false, List, [], ◌∷◌, ◌==◌, ◌||◌, ◌&&◌, Option, None, Some, if◌then◌else◌, drop, length, take}
use Rattle.std.specs.Str.{chars}

-- LF, CR, and the line and the paragraph separator
abbrev pub is_line_end : ℕ → Bool
is_line_end c = c == 0x0A || c == 0x0D || c == 0x2028 || c == 0x2029

abbrev pub has_line_feed_first : List ℕ → Bool
has_line_feed_first [] = false
has_line_feed_first (c ∷ cs) = c == 0x0A

-- the lines, with this character at the front of the first
abbrev pub with_front : ℕ → List (List ℕ) → List (List ℕ)
with_front c [] = []
with_front c (line ∷ lines) = (c ∷ line) ∷ lines

-- the lines of a character and a text that has these lines: a CR before an LF is a part of that end, any other end
-- ends an empty line, and every other character goes on in the first line
abbrev pub lines_from : ℕ → (line_feed_follows : Bool) → List (List ℕ) → List (List ℕ)
lines_from c line_feed_follows lines =
    if c == 0x0D && line_feed_follows then lines
    else (if is_line_end c then [] ∷ lines else with_front c lines)

-- the lines of a text, without their ends; an empty text has one empty line
unfoldable pub lines_of : List ℕ → List (List ℕ)
lines_of [] = [] ∷ []
lines_of (c ∷ cs) = lines_from c (has_line_feed_first cs) (lines_of cs)

-- the lines of what follows a line's end, where the line has one
abbrev pub lines_behind : Option (List ℕ) → List (List ℕ)
lines_behind None = []
lines_behind (Some rest) = lines_of (chars rest)

-- the bytes of a text from one byte on that have the lines from this number on, from 0
pub record IsRestFrom (content : List ℕ) (line : ℕ) (rest : List ℕ) : Type 0 where
  pub start : ℕ
  pub within : drop start content ≡ rest
  pub lines : drop line (lines_of (chars content)) ≡ lines_of (chars rest)

-- a slice of a content that begins where the line of this number, from 0, does
pub record IsSliceAt (content : List ℕ) (line : ℕ) (slice : List ℕ) : Type 0 where
  pub rest : List ℕ
  pub from : IsRestFrom content line rest
  pub front : take (length slice) rest ≡ slice
