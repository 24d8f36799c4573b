use Rattle.smap_kept.proofs.RunLaws.{forgotten_is_wanted, others_stay}
use Rattle.smap_kept.proofs.laws.forgetting_changes_its_own_answers.Goals as goal

pub returns : goal.returns
returns g c = record { own = forgotten_is_wanted; others = others_stay }
