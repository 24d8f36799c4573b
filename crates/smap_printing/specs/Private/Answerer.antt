-- The editor that answers positions, and counts them.
use Rattle.std.specs.Prelude.{ℕ, ◌+◌, ◌-◌, ◌^◌, Bool, List, Option, Some, None, if◌then◌else◌}
use Rattle.smap_lines.specs.Lines.{Line}
use Rattle.smap_printing.specs.Positions.{answered_line, is_position_line}
use Rattle.smap_printing.specs.declared.answerer.PositionAnswerer.{PositionAnswerer}

-- the first bad line, where this one has this number and is a position or not
abbrev pub bad_with : Option ℕ → (number : ℕ) → (is_position : Bool) → Option ℕ
bad_with (Some earlier) number is_position = Some earlier
bad_with None number is_position = if is_position then None else Some number

-- what becomes of a line
abbrev pub answer_of : PositionAnswerer → Line → List ℕ
answer_of answerer = answered_line answerer.map.now.stated answerer.options

-- the editor after a line
abbrev pub after_position : PositionAnswerer → Line → PositionAnswerer
after_position answerer line = record answerer {
  lines = answerer.lines + 1;
  first_bad = bad_with answerer.first_bad (answerer.lines + 1) (is_position_line line);
}

-- how many lines it can count
abbrev pub room_of : PositionAnswerer → ℕ
room_of answerer = 2 ^ 64 - 1 - answerer.lines
