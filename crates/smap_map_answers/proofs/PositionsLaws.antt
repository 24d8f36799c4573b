-- What `positions` prints, by what answering them came to.
use Rattle.std.proofs.Common.{◌≡◌, false, [], Err, refl, sym, ◌∙◌, append-nil, arith}
use Rattle.smap_io.specs.Device.{SinkSeen, SourceSeen}
use Rattle.smap_lines.specs.Edited.{edited}
use Rattle.smap_lines.specs.Editing.{DevicesSeen, EditsFront, devices_seen}
use Rattle.smap_lines.specs.Laws.Put.{takes_none}
use Rattle.smap_lines.specs.Limits.{most_text_bytes}
use Rattle.smap_lines.specs.declared.fault.LineFault.TheVariants.{Write, Memory}
use Rattle.smap_lines.specs.Laws.RunEnds.{gives_none}
use Rattle.smap_printing.specs.Answering.{AnswersPositions}
use Rattle.smap_printing.specs.Positions.{answered_line}
use Rattle.smap_command.specs.declared.options.AnswerOptions.{AnswerOptions}
use Rattle.smap_printing.specs.declared.answering.PositionsSummary.{PositionsSummary}
use Rattle.smap_record.specs.Record.{MapRecord}
use Rattle.smap_replies.specs.Outcome.{out_of_memory}
use Rattle.smap_map_answers.specs.Positions.{AnsweredReports}

-- all of it was written, but not flushed
pub written_front : (before : DevicesSeen) (input : SourceSeen) (mid after : SinkSeen) (stated : MapRecord) (options : AnswerOptions) (summary : PositionsSummary) →
    AnswersPositions before (devices_seen input mid) stated options summary → after.taken ≡ mid.taken
    → EditsFront (answered_line stated options) most_text_bytes before (devices_seen input after) Write
written_front before input mid after stated options summary answers kept = record {
  bytes = answers.bytes;
  written = edited (answered_line stated options) answers.bytes;
  later = [];
  read = answers.edits.read;
  taken = kept ∙ answers.edits.written;
  front = sym (append-nil (edited (answered_line stated options) answers.bytes));
  many = (λ e. absurd (cc), λ less. absurd (omega (arith, less, answers.edits.fits)));
  whole = λ e. absurd (cc);
}

-- nothing was read, and nothing written
pub no_room : (stated : MapRecord) (options : AnswerOptions) (now : DevicesSeen) → now.input.failed ≡ false → now.output.failed ≡ false
    → AnsweredReports stated options now now out_of_memory
unfolding edited
no_room stated options now input_works output_works = record {
  result = Err Memory;
  answered = record {
    bytes = [];
    written = [];
    later = [];
    read = gives_none now.input.left;
    taken = takes_none now.output.taken;
    front = refl;
    many = (λ e. absurd (cc), λ less. absurd (omega (arith, less)));
    whole = λ e. absurd (cc);
  };
  input_failed = input_works;
  output_failed = output_works;
  flushed = λ one. absurd (cc);
  untouched = λ none. refl;
  reported = refl;
}
