use Rattle.smap_locations.proofs.OrderLaws.{named_found, pattern_found}
use Rattle.smap_locations.proofs.laws.what_has_a_path_is_found.Goals as goal

pub returns-clause-named : goal.returns-clause-named
returns-clause-named c locations url = named_found locations url

pub returns-clause-by_pattern : goal.returns-clause-by_pattern
returns-clause-by_pattern c locations url = pattern_found locations url
