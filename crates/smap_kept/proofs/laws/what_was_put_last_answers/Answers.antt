use Rattle.smap_kept.proofs.RunLaws.{none_answers, value_answers}
use Rattle.smap_kept.proofs.laws.what_was_put_last_answers.Goals as goal

pub returns : goal.returns
returns g c = record {
  value = value_answers;
  none = none_answers;
}
