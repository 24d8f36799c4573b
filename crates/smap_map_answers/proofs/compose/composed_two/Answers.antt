use Rattle.smap_map_answers.proofs.ComposeLaws.{reported_or}
use Rattle.smap_map_answers.proofs.compose.composed_two.Goals as goal

pub returns : goal.returns
returns c = reported_or c.composed_line.result _ _ c.reported.ensures c.composed_line.ensures
