use Rattle.smap_pairs.specs.Laws.Queries.{noted}
use Rattle.smap_pairs.proofs.behind.each_query_is_noted.Goals as goal

pub returns : goal.returns
returns c before piece query = noted before piece query
