-- Laws of the editor that answers positions, which its trait asks for: a line takes room for one, and changes nothing of
-- what becomes of others.
use Rattle.std.specs.Prelude.{◌≡◌, ◌≤◌, ◌+◌, ℕ, List}
use Rattle.std.proofs.Common.{arith, ap, subst, sym, ◌∙◌}
use Rattle.smap_lines.specs.Lines.{Line}
use Rattle.smap_lines.specs.Laws.OneText.{OnlyStep}
use Rattle.smap_record.specs.Record.{MapRecord}
use Rattle.smap_printing.specs.Private.Answerer.{after_position, answer_of, room_of}
use Rattle.smap_printing.specs.Positions.{answered_line}
use Rattle.smap_printing.specs.declared.answerer.PositionAnswerer.{PositionAnswerer}
use Rattle.smap_command.specs.declared.options.AnswerOptions.{AnswerOptions}

room_by : (answerer : PositionAnswerer) (line : Line) → room_of answerer ≤ room_of (after_position answerer line) + 1
room_by answerer line = omega arith

pub room_after : (answerer after : PositionAnswerer) (line : Line) (text : List ℕ) → OnlyStep answer_of after_position answerer line text after
    → room_of answerer ≤ room_of after + 1
room_after answerer after line text is = subst (λ a. room_of answerer ≤ room_of a + 1) (sym is.1) (room_by answerer line)

pub same_after : (answerer after : PositionAnswerer) (line other : Line) (text later : List ℕ) → OnlyStep answer_of after_position answerer line text after
    → later ≡ answer_of after other → later ≡ answer_of answerer other
same_after answerer after line other text later is becomes = becomes ∙ ap (λ a. answer_of a other) is.1

-- it answers from this map, with these options
abbrev pub AnswersFrom : MapRecord → AnswerOptions → PositionAnswerer → Type 0
AnswersFrom stated options answerer = (line : Line) → answer_of answerer line ≡ answered_line stated options line

pub only_answer : (stated : MapRecord) (options : AnswerOptions) (old : PositionAnswerer) (line : Line) (text : List ℕ) (new : PositionAnswerer)
    → AnswersFrom stated options old → OnlyStep answer_of after_position old line text new →
    (text ≡ answered_line stated options line) × (new ≡ after_position old line) × AnswersFrom stated options new
only_answer stated options old line text new is steps = (
  steps.0 ∙ is line,
  steps.1,
  λ other. ap (λ a. answer_of a other) steps.1 ∙ is other,
)
