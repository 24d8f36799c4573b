-- What the parts of the call that makes the table of a trace give.
use Rattle.std.specs.Prelude.{Result, Ok, Err}
use Rattle.smap_replies.specs.Outcome.{Report, failure_report}
use Rattle.smap_text_answers.specs.Trace.{Maps}
use Rattle.smap_replies.specs.declared.outcome.Failure.{Failure}

-- what a call that makes the table gives
abbrev pub gathered : Result Maps Failure → Result Maps Report
gathered (Ok maps) = Ok maps
gathered (Err failure) = Err (failure_report failure)
