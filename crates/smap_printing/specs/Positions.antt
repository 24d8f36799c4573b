-- What becomes of a text of positions: each of its lines is answered by a line, in their order. A line of more than 65,536
-- bytes is none that is answered: it stays as it is.
use Rattle.std.specs.Prelude.{ℕ, ◌+◌, ◌-◌, Bool, List, [], ◌∷◌, Option, Some, None, is_some, if◌then◌else◌, filter, option_map}
use Rattle.smap_index.specs.declared.answer.Answer.{Answer}
use Rattle.smap_lines.specs.Edited.{edited, is_short}
use Rattle.smap_lines.specs.Lines.{Line, lines_with_ends}
use Rattle.smap_record.specs.Record.{MapRecord}
use Rattle.smap_command.specs.Options.{is_json}
use Rattle.smap_printing.specs.Functions.{FunctionAsked, function_answered}
use Rattle.smap_printing.specs.Json.{answer_value, bad_position_value, json_line}
use Rattle.smap_printing.specs.Lines.{bad_position_line}
use Rattle.smap_printing.specs.Lookup.{answer_line, lookup_answer}
use Rattle.smap_printing.specs.PositionOf.{position_of}
use Rattle.smap_command.specs.declared.options.AnswerOptions.{AnswerOptions}
use Rattle.smap_command.specs.declared.options.Direction.{Direction}
use Rattle.smap_printing.specs.declared.printed_position.PrintedPosition.{PrintedPosition}

-- ---- a line

-- what a map answers for a position
abbrev pub position_answer : Direction → MapRecord → PrintedPosition → Answer
position_answer direction stated position = lookup_answer direction (position.line - 1) (position.column - 1) stated

-- the line for a position, with the function that was asked for, where one was, as text, or as JSON with the lines around it, where they
-- are asked for, and the URL that was, where one was
abbrev pub asked_line : AnswerOptions → (function : Option FunctionAsked) → (url : Option (List ℕ)) → MapRecord → PrintedPosition → List ℕ
asked_line options function url stated position =
    let answer = position_answer options.direction stated position in
    let answered = option_map (function_answered answer) function in
    if is_json options.form then json_line (answer_value options.context None answered url stated position answer)
    else answer_line stated answered answer

-- the same without these; and the line for what is no position
abbrev pub position_line : AnswerOptions → MapRecord → Option PrintedPosition → List ℕ
position_line options stated None = if is_json options.form then json_line bad_position_value else bad_position_line
position_line options stated (Some position) = asked_line options None None stated position

abbrev pub answered_line : MapRecord → AnswerOptions → Line → List ℕ
answered_line stated options line = position_line options stated (position_of line.bytes)

-- ---- a text

-- a text of positions, answered
abbrev pub answered : List ℕ → MapRecord → AnswerOptions → List ℕ
answered text stated options = edited (answered_line stated options) text

abbrev pub is_position_line : Line → Bool
is_position_line line = is_some (position_of line.bytes)

-- the number of the first of these lines that is no position, where the first of them has this number
abbrev pub first_bad_from : ℕ → List Line → Option ℕ
first_bad_from n [] = None
first_bad_from n (line ∷ lines) = if is_position_line line then first_bad_from (n + 1) lines else Some n

-- the lines of a text that are answered
abbrev pub short_lines : List ℕ → List Line
short_lines text = filter is_short (lines_with_ends text)

-- the number, from 1, of the first of them that is no position
unfoldable pub first_bad : List ℕ → Option ℕ
first_bad text = first_bad_from 1 (short_lines text)
