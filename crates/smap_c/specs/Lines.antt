-- The lines around a line of a source (ECMAScript, line terminator sequences), and where they stand in its content.
use Rattle.std.specs.Prelude.{◌≡◌, ◌<◌, ◌+◌, ◌-◌, ℕ, List, Option, Some, None, IsSomeAnd, drop, length, min, nat_lt, option_and_then, slice_get, take}
use Rattle.std.specs.Prelude.{if◌then◌else◌}
use Rattle.std.specs.Str.{chars}
use Rattle.smap_record.specs.Record.{MapRecord}
use Rattle.smap_text.specs.Begins.{BeginsAt}
use Rattle.smap_text.specs.Lines.{lines_of}
use Rattle.smap_text.specs.ShownLine.{IsFrontOf}
use Rattle.smap_c.specs.Texts.{flag}
use Rattle.smap_c.specs.declared.lines.LineBytes.{LineBytes}
use Rattle.smap_c.specs.declared.lines.LineRange.{LineRange}

-- ---- which lines

-- the content of a source, where the map has it
abbrev pub content_of : MapRecord → (source : ℕ) → Option (List ℕ)
content_of stated source = option_and_then (λ entry. entry.content) (slice_get stated.sources source)

-- some lines of a content
pub record Around : Type 0 where
  pub content : List ℕ
  pub range : LineRange

-- of so many lines this one, and so many before it and after it, or fewer where there are fewer
abbrev pub range_in : (lines line before after : ℕ) → Option LineRange
range_in lines line before after =
    let first = line - before in
    if nat_lt line lines then Some (record { first = first; count = min (line - first + 1 + after) (lines - first) }) else None

abbrev pub around_in : (line before after : ℕ) → (content : List ℕ) → Option Around
around_in line before after content =
    option_and_then (λ range. Some (record { content = content; range = range })) (range_in (length (lines_of (chars content))) line before after)

-- those of the content of a source, where it has this line
abbrev pub around : MapRecord → (source line before after : ℕ) → Option Around
around stated source line before after = option_and_then (around_in line before after) (content_of stated source)

-- ---- where they stand

-- the line of this number, from 0, of a content stands there
pub record IsLineAt (content : List ℕ) (number : ℕ) (place : LineBytes) : Type 0 where
  pub line : List ℕ
  pub text : slice_get (lines_of (chars content)) number ≡ Some (chars line)
  pub begins : BeginsAt content number place.start
  pub stands : take (length line) (drop place.start content) ≡ line
  pub front : IsFrontOf line place.length
  pub cut : place.cut ≡ flag (nat_lt place.length (length line))

-- the first places are those of these lines, and the others stay
pub record AreLines (content : List ℕ) (range : LineRange) (old new : List LineBytes) : Type 0 where
  pub each : (k : ℕ) → k < range.count → IsSomeAnd (slice_get new k) (IsLineAt content (range.first + k))
  pub others : drop range.count new ≡ drop range.count old
