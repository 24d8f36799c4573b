use Rattle.smap_kept.proofs.RunLaws.{asked_stays}
use Rattle.smap_kept.proofs.laws.looking_up_changes_no_answer.Goals as goal

pub returns : goal.returns
returns g c = asked_stays
