use Rattle.smap_kept.specs.Runs.{kept_after}
use Rattle.smap_kept.proofs.RunLaws.{as_said, is_as_if}
use Rattle.smap_kept.proofs.laws.answers_are_as_if_all_were_kept.Goals as goal

pub returns : goal.returns
returns g c = λ most now calls url. is_as_if now calls (kept_after most calls) (as_said most calls) url
