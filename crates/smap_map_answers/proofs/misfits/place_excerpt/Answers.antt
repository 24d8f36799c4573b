use Rattle.smap_map_answers.proofs.MisfitLaws.{no_place}
use Rattle.smap_map_answers.proofs.misfits.place_excerpt.Goals as goal

pub returns-in_default : goal.returns-in_default
returns-in_default c = no_place c.args.text.now c.code_of-code.result.now c.args.mapping.now c.code_of-code.ensures.code c.in_default.ensures.text
