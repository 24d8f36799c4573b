use Rattle.smap_kept.proofs.RunLaws.{none_leaves_others, put_leaves_others}
use Rattle.smap_kept.proofs.laws.putting_changes_its_own_answers.Goals as goal

pub returns : goal.returns
returns g c = record { value = put_leaves_others; none = none_leaves_others }
