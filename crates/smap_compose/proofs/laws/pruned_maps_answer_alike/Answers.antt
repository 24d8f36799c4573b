use Rattle.smap_compose.proofs.PrunedLaws.{answers_reported}
use Rattle.smap_compose.proofs.laws.pruned_maps_answer_alike.Goals as goal

pub returns : goal.returns
returns c whole line column within = answers_reported whole within line column
