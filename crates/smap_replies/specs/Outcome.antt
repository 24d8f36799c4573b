-- What a command comes to: the text that is reported, and the status with which the program ends.
use Rattle.std.specs.Prelude.{◌≡◌, ℕ, ◌⊎◌, Bool, true, false, List, [], Option, Some, None, Result, Ok, Err, string_bytes}
use Rattle.smap_codes.specs.declared.code.Code.{Code}
use Rattle.smap_lines.specs.Codes.{line_code}
use Rattle.smap_lines.specs.declared.fault.LineFault.{LineFault}
use Rattle.smap_lines.specs.declared.fault.LineFault.TheVariants.{Read, Write, TooMuch, Memory}
use Rattle.smap_replies.specs.Lines.{argument_not_utf8_line, code_failed_line, code_refused_line, input_failed_line, memory_line}
use Rattle.smap_replies.specs.declared.outcome.Failure.{Failure}
use Rattle.smap_replies.specs.declared.outcome.Failure.TheVariants as failures
use Rattle.smap_replies.specs.declared.outcome.Reply.{Reply}
use Rattle.smap_replies.specs.declared.outcome.Reply.TheVariants as replies

-- a text and a status: an answer is for standard output, and any other text for standard error; and the code of a refusal, where
-- it has one
pub record Report : Type 0 where
  pub status : ℕ
  pub is_answer : Bool
  pub text : List ℕ
  pub code : Option Code

-- what was asked for
abbrev pub answer : List ℕ → Report
answer text = record { status = 0; is_answer = true; text = text; code = None }

-- that a map does not fit, or why it is refused, where an answer says that
abbrev pub refused_answer : List ℕ → Report
refused_answer text = record { status = 1; is_answer = true; text = text; code = None }

-- why the input is refused
abbrev pub refusal : Option Code → List ℕ → Report
refusal code text = record { status = 1; is_answer = false; text = text; code = code }

-- its code says why
abbrev pub refused_by : Code → Report
refused_by code = refusal (Some code) (code_refused_line code)

-- why the arguments give no command
abbrev pub misuse : List ℕ → Report
misuse text = record { status = 2; is_answer = false; text = text; code = None }

-- a device failed, or memory ran out
abbrev pub failure : List ℕ → Report
failure text = record { status = 3; is_answer = false; text = text; code = None }

abbrev pub out_of_memory : Report
out_of_memory = failure memory_line

-- why a trace was not rewritten to its end
abbrev pub fault_report : LineFault → Report
fault_report Read = failure (code_failed_line (line_code Read))
fault_report Write = failure (code_failed_line (line_code Write))
fault_report TooMuch = refused_by (line_code TooMuch)
fault_report Memory = out_of_memory

-- an answer
abbrev pub reply_report : Reply → Report
reply_report (replies.Text text) = answer (string_bytes text)
reply_report (replies.Bytes bytes) = answer bytes.items
reply_report (replies.Refused text) = refused_answer (string_bytes text)
reply_report replies.Printed = answer []

-- why there is none
abbrev pub failure_report : Failure → Report
failure_report (failures.Refusal code line) = refusal code (string_bytes line)
failure_report (failures.Misuse text) = misuse (string_bytes text)
failure_report failures.ArgumentNotUtf8 = misuse argument_not_utf8_line
failure_report (failures.Unreadable text) = failure (string_bytes text)
failure_report failures.InputFailure = failure input_failed_line
failure_report (failures.Fault fault) = fault_report fault
failure_report failures.Memory = out_of_memory

-- either
abbrev pub report_of : Result Reply Failure → Report
report_of (Ok reply) = reply_report reply
report_of (Err failure) = failure_report failure

-- this is reported, or that memory ran out
abbrev pub OrMemory : (Report → Type 0) → Report → Type 0
OrMemory IsReport report = (report ≡ out_of_memory) ⊎ IsReport report

-- what a call that may fail gives, and what is reported where it does
abbrev pub or_reported : {A : Type 0} → Result A Failure → Result A Report
or_reported (Ok it) = Ok it
or_reported (Err failure) = Err (failure_report failure)
