use Rattle.smap_resolve.proofs.PathLaws.{twice}
use Rattle.smap_resolve.proofs.laws.going_on_twice_is_going_on_by_both.Goals as goal

pub returns : goal.returns
returns c file first second relative named = twice file first second relative named
