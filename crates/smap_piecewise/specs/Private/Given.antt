-- Of private contracts only: the first line of bytes that were given.
use Rattle.std.specs.Prelude.{◌≡◌, ◌≤◌, ℕ, ◌+◌, Bool, true, false, List, ◌++◌, drop, length, take}
use Rattle.smap_lines.specs.Lines.{end_in, has_line_end}
use Rattle.smap_piecewise.specs.declared.given.FirstLine.{FirstLine}

abbrev pub end_size : Bool → ℕ
end_size true = 1
end_size false = 0

-- how many bytes it has with its LF, where it has one
abbrev pub line_size : FirstLine → ℕ
line_size line = line.bytes + end_size line.is_ended

-- this is that of a text
pub record IsFirstLine (text : List ℕ) (line : FirstLine) : Type 0 where
  pub within : line_size line ≤ length text
  pub joined : text ≡ take line.bytes text ++ (end_in line.is_ended ++ drop (line_size line) text)
  pub one : has_line_end (take line.bytes text) ≡ false
  pub all : line.is_ended ≡ false → line.bytes ≡ length text
