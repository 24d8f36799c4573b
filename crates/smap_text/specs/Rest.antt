-- The end of a text that begins with one of its lines (ECMAScript, line terminator sequences).
use Rattle.std.specs.Prelude.{◌≡◌, ◌<◌, ◌-◌, ℕ, List, drop, length}
use Rattle.std.specs.Str.{chars}
use Rattle.smap_text.specs.Begins.{BeginsAt}
use Rattle.smap_text.specs.Lines.{lines_of}

-- the text has a line of this number, from 0, and this end of it begins where that does: it has the lines from that on
pub record IsEndFrom (text : List ℕ) (line : ℕ) (rest : List ℕ) : Type 0 where
  pub some : line < length (lines_of (chars text))
  pub begins : BeginsAt text line (length text - length rest)
  pub end : drop (length text - length rest) text ≡ rest
  pub lines : drop line (lines_of (chars text)) ≡ lines_of (chars rest)
