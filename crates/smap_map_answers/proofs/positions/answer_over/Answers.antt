use Rattle.std.proofs.Common.{Err, refl}
use Rattle.smap_lines.specs.declared.fault.LineFault.TheVariants.{Write}
use Rattle.smap_map_answers.proofs.PositionsLaws.{no_room, written_front}
use Rattle.smap_map_answers.proofs.positions.answer_over.Goals as goal

pub returns-in-Err-flush : goal.returns-in-Err-flush
returns-in-Err-flush g c = record {
  result = Err Write;
  answered = written_front _ _ _ _ _ _ _ c.in-Ok-answer_position_lines.ensures.ends.whole c.in-Err-flush.ensures.keeps;
  input_failed = c.in-Ok-answer_position_lines.ensures.ends.input_failure;
  output_failed = c.in-Err-flush.ensures.failure;
  flushed = λ one. absurd (cc);
  untouched = λ none. absurd (cc);
  reported = refl;
}

pub returns-in_default : goal.returns-in_default
returns-in_default g c = no_room _ _ _ c.requires.input_works c.requires.output_works
