-- What answering positions does to its devices.
use Rattle.std.specs.Prelude.{◌≡◌, ℕ, List, length}
use Rattle.smap_lines.specs.Editing.{DevicesSeen, Edits}
use Rattle.smap_lines.specs.Limits.{most_text_bytes}
use Rattle.smap_record.specs.Record.{MapRecord}
use Rattle.smap_printing.specs.Positions.{answered_line, first_bad, short_lines}
use Rattle.smap_command.specs.declared.options.AnswerOptions.{AnswerOptions}
use Rattle.smap_printing.specs.declared.answering.PositionsSummary.{PositionsSummary}

-- all that the input had, which is not too much, was read, and what it becomes was written, and nothing else
pub record AnswersPositions (before after : DevicesSeen) (stated : MapRecord) (options : AnswerOptions) (summary : PositionsSummary) : Type 0 where
  pub bytes : List ℕ
  pub edits : Edits (answered_line stated options) most_text_bytes before after bytes summary.lines
  pub answered : summary.answered ≡ length (short_lines bytes)
  pub bad : summary.first_bad ≡ first_bad bytes
