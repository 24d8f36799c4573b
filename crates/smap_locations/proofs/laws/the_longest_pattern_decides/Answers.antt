use Rattle.smap_locations.proofs.DecidingLaws.{found_by_pattern}
use Rattle.smap_locations.proofs.laws.the_longest_pattern_decides.Goals as goal

pub returns : goal.returns
returns c patterns url short path = found_by_pattern patterns url short path
