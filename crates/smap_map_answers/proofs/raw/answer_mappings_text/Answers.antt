use Rattle.smap_map_answers.specs.Raw.{raw_result}
use Rattle.smap_map_answers.proofs.raw.answer_mappings_text.Goals as goal

pub returns : goal.returns
unfolding raw_result
returns c = rw (← c.without_last_line_end.ensures) c.answer_text.ensures
