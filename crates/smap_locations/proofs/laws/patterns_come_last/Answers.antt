use Rattle.smap_locations.proofs.OrderLaws.{found_before}
use Rattle.smap_locations.proofs.laws.patterns_come_last.Goals as goal

pub returns : goal.returns
returns c locations url path = found_before locations url path
