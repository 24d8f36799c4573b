use Rattle.smap_pairs.proofs.FrontLaws.{no_place}
use Rattle.smap_pairs.proofs.laws.urls_begin_alike.Goals as goal

pub returns : goal.returns
returns c = λ known front line begin none. no_place known front line begin none
