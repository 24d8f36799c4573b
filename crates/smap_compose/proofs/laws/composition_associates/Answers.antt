use Rattle.smap_compose.proofs.AssociationLaws.{associates}
use Rattle.smap_compose.proofs.laws.composition_associates.Goals as goal

pub returns : goal.returns
returns c first second third s t within = associates first s second t third within
