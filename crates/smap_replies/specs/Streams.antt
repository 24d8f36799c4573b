-- What the program's streams show, and what report does to them.
use Rattle.std.specs.Prelude.{◌≡◌, ℕ, ◌⊎◌, true, false, List, Option}
use Rattle.std.specs.Option.{option_or}
use Rattle.smap_codes.specs.declared.code.Code.{Code}
use Rattle.smap_io.specs.Device.{SinkSeen, SourceSeen, Takes, TakesFront}
use Rattle.smap_replies.specs.Outcome.{Report}
use Rattle.smap_replies.specs.Lines.{output_failed_line}

-- ---- what a stream shows

-- standard output and standard error, and the code of the first refusal that was reported
pub record Sinks : Type 0 where
  pub output : SinkSeen
  pub errors : SinkSeen
  pub code : Option Code

-- all three
pub record Streams : Type 0 where
  pub input : SourceSeen
  pub sinks : Sinks

abbrev pub sinks_seen : SinkSeen → SinkSeen → Option Code → Sinks
sinks_seen output errors code = record { output = output; errors = errors; code = code }

abbrev pub streams_seen : SourceSeen → SinkSeen → SinkSeen → Option Code → Streams
streams_seen input output errors code = record { input = input; sinks = sinks_seen output errors code }

-- ---- how report ends

-- the stream took all of the text, was flushed after it, and has not failed
pub record IsPrintedTo (before after : SinkSeen) (text : List ℕ) : Type 0 where
  pub whole : Takes before.taken after.taken text
  pub flushed : after.flushed ≡ true
  pub works : after.failed ≡ false

-- the stream took the text and was flushed after it or, where it has failed, took a front of the text
pub record IsReportedTo (before after : SinkSeen) (text : List ℕ) : Type 0 where
  pub whole : after.failed ≡ false → Takes before.taken after.taken text
  pub flushed : after.failed ≡ false → after.flushed ≡ true
  pub front : TakesFront before.taken after.taken text

-- the answer is on standard output, and nothing was done to standard error
pub record Answers (text : List ℕ) (before after : Sinks) : Type 0 where
  pub printed : IsPrintedTo before.output after.output text
  pub unreported : after.errors ≡ before.errors
  pub code : after.code ≡ before.code

-- standard output failed, and holds a front of the answer; standard error says so
pub record FailsToAnswer (text : List ℕ) (before after : Sinks) : Type 0 where
  pub failed : after.output.failed ≡ true
  pub front : TakesFront before.output.taken after.output.taken text
  pub reported : IsReportedTo before.errors after.errors output_failed_line
  pub code : after.code ≡ before.code

-- the text is on standard error, and nothing was done to standard output; its code is kept, where none was before
pub record Reports (report : Report) (before after : Sinks) : Type 0 where
  pub reported : IsReportedTo before.errors after.errors report.text
  pub unprinted : after.output ≡ before.output
  pub code : after.code ≡ option_or before.code report.code

-- a report ends with its status, or with 3 where it is an answer and standard output failed
abbrev pub Ends : Report → ℕ → Sinks → Sinks → Type 0
Ends report status before after =
    ((report.is_answer ≡ true)
    × (((status ≡ report.status) × Answers report.text before after) ⊎ ((status ≡ 3) × FailsToAnswer report.text before after)))
    ⊎ ((report.is_answer ≡ false) × (status ≡ report.status) × Reports report before after)
