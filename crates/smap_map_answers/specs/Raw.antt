-- What `raw` prints of the bytes of its input.
use Rattle.std.specs.Prelude.{◌≡◌, ℕ, ◌-◌, Bool, true, false, List, Option, Some, None, ◌==◌, IfSome, nat_lt, not, if◌then◌else◌, length, take, slice_index}
use Rattle.std.specs.Str.{is_utf8}
use Rattle.smap_codes.specs.declared.code.Code.TheVariants.{NotUtf8, TextTooLong}
use Rattle.smap_mappings.specs.Codes.{kind_code}
use Rattle.smap_mappings.specs.Faults.{first_fault}
use Rattle.smap_mappings.specs.Mappings.{mappings_of}
use Rattle.smap_mappings.specs.Limits.{most_indices, most_text_bytes}
use Rattle.smap_mappings.specs.declared.fault.Fault.{Fault}
use Rattle.smap_index.specs.Answer.{answer_at_or_before}
use Rattle.smap_index.specs.declared.answer.Answer.{Answer}
use Rattle.smap_index.specs.declared.answer.Answer.TheVariants.{Nothing, Unmapped, Found}
use Rattle.smap_lines.specs.Editing.{DevicesSeen}
use Rattle.smap_printing.specs.Lines.{none_line, unmapped_line}
use Rattle.smap_map_answers.specs.Lines.{found_line, refused_line}
use Rattle.smap_replies.specs.Lines.{input_failed_line}
use Rattle.smap_replies.specs.Outcome.{OrMemory, Report, answer, failure, refusal, refused_by}

-- one LF at the very end is dropped
abbrev pub without_last_line_end : List ℕ → List ℕ
without_last_line_end bytes = if slice_index bytes (length bytes - 1) == 10 then take (length bytes - 1) bytes else bytes

-- the line for an answer, by indices
abbrev pub raw_line : Answer → List ℕ
raw_line Nothing = none_line
raw_line (Unmapped column) = unmapped_line
raw_line (Found column origin) = found_line origin.source origin.line origin.column origin.name

-- the first fault of a text, where it has one, and else what a position in it answers
abbrev pub fault_or_answer : Option Fault → Answer → Report
fault_or_answer (Some fault) found = refusal (Some (kind_code fault.kind)) (refused_line fault)
fault_or_answer None found = answer (raw_line found)

-- what a text reports a generated line and column, from 0; its indices may be any
abbrev pub text_result : List ℕ → ℕ → ℕ → Report
text_result text line column =
    if nat_lt most_text_bytes (length text) then refused_by TextTooLong
    else (if not (is_utf8 text) then refused_by NotUtf8
    else fault_or_answer (first_fault text most_indices most_indices) (answer_at_or_before (mappings_of text) line column))

-- what the bytes of the input say of a generated line and column, from 0
unfoldable pub raw_result : List ℕ → ℕ → ℕ → Report
raw_result bytes line column = text_result (without_last_line_end bytes) line column

-- ---- standard input

-- what is reported where standard input failed in the run, or did not
abbrev pub IsRawReport : (line column : ℕ) (input : List ℕ) (failed : Bool) → Report → Type 0
IsRawReport line column input true report = report ≡ failure input_failed_line
IsRawReport line column input false report = OrMemory (λ reported. reported ≡ raw_result input line column) report

-- `raw` reads standard input, and leaves standard output alone
pub record RawReports (line column : ℕ) (before after : DevicesSeen) (report : Report) : Type 0 where
  -- the bytes of standard input, where it shows them
  pub input : List ℕ
  pub is_input : IfSome before.input.left (λ left. left ≡ input)
  pub unwritten : after.output ≡ before.output
  pub is_report : IsRawReport line column input after.input.failed report
