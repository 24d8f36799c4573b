use Rattle.smap_kept.proofs.RunLaws.{none_answers_by_key, value_answers_by_key}
use Rattle.smap_kept.proofs.laws.what_is_put_under_its_key_answers.Goals as goal

pub returns : goal.returns
returns g c = record { value = value_answers_by_key; none = none_answers_by_key }
