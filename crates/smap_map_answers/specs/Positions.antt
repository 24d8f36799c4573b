-- What `positions` prints.
use Rattle.std.specs.Prelude.{◌≡◌, ℕ, ◌==◌, ◌⊎◌, false, true, Option, Some, None, Result, Ok, Err, [], if◌then◌else◌}
use Rattle.smap_codes.specs.declared.code.Code.TheVariants.{P1, P2}
use Rattle.smap_lines.specs.Editing.{DevicesSeen, EditsFront}
use Rattle.smap_lines.specs.RunEnds.{is_read_fault, is_write_fault}
use Rattle.smap_lines.specs.Limits.{most_text_bytes}
use Rattle.smap_lines.specs.declared.fault.LineFault.{LineFault}
use Rattle.smap_lines.specs.declared.fault.LineFault.TheVariants.{TooMuch, Memory}
use Rattle.smap_record.specs.Record.{MapRecord}
use Rattle.smap_printing.specs.Answering.{AnswersPositions}
use Rattle.smap_printing.specs.Positions.{answered_line}
use Rattle.smap_command.specs.declared.asked.Positions as asked
use Rattle.smap_command.specs.declared.options.AnswerOptions.{AnswerOptions}
use Rattle.smap_printing.specs.declared.answering.PositionsSummary.{PositionsSummary}
use Rattle.smap_replies.specs.Files.{MayRead}
use Rattle.smap_map_answers.specs.Lines.{bad_position_refused_line}
use Rattle.smap_replies.specs.Map.{Never, StatesChosen}
use Rattle.smap_replies.specs.Outcome.{OrMemory, Report, answer, fault_report, refusal, refused_by}
use Rattle.smap_replies.specs.Why.{ReportsChosen}

-- ---- what is reported

-- nothing is added where each line is a position; else the first that is none is named
abbrev pub bad_report : (first_bad : Option ℕ) → Report
bad_report None = answer []
bad_report (Some number) = refusal (Some P1) (bad_position_refused_line number)

-- of what was answered to its end: where each line is short enough to be answered the first bad one decides, and else a
-- long one
abbrev pub summary_report : PositionsSummary → Report
summary_report summary = if summary.answered == summary.lines then bad_report summary.first_bad else refused_by P2

abbrev pub positions_report : Result PositionsSummary LineFault → Report
positions_report (Ok summary) = summary_report summary
positions_report (Err fault) = fault_report fault

-- ---- the positions

-- the positions are answered to their end, or up to a fault
abbrev pub IsAnswered : MapRecord → AnswerOptions → (before after : DevicesSeen) → Result PositionsSummary LineFault → Type 0
IsAnswered stated options before after (Ok summary) = AnswersPositions before after stated options summary
IsAnswered stated options before after (Err fault) = EditsFront (answered_line stated options) most_text_bytes before after fault

-- answering the positions on standard input from this map says this; a refusal for a bad line or a long one comes after
-- their answers, which are flushed
pub record AnsweredReports (stated : MapRecord) (options : AnswerOptions) (before after : DevicesSeen) (report : Report) : Type 0 where
  pub result : Result PositionsSummary LineFault
  pub answered : IsAnswered stated options before after result
  pub input_failed : after.input.failed ≡ is_read_fault result
  pub output_failed : after.output.failed ≡ is_write_fault result
  pub flushed : report.status ≡ 1 → (result ≡ Err TooMuch) ⊎ (after.output.flushed ≡ true)
  pub untouched : result ≡ Err Memory → after ≡ before
  pub reported : report ≡ positions_report result

-- what `positions` prints over the map of a file: that there is none, or memory ran out, and then standard input and output
-- stay as they are; or what the answers come to
abbrev pub PositionsReports : MayRead → asked.Positions → (before after : DevicesSeen) → Report → Type 0
PositionsReports Reads asked before after report =
    ((after ≡ before) × OrMemory (ReportsChosen Reads false asked.map Never) report)
    ⊎ ((stated : MapRecord) × StatesChosen Reads asked.map stated × AnsweredReports stated asked.options before after report)
