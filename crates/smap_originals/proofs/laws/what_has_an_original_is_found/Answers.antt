use Rattle.smap_originals.proofs.DirectionLaws.{found_itself}
use Rattle.smap_originals.proofs.laws.what_has_an_original_is_found.Goals as goal

pub returns : goal.returns
returns c = found_itself
