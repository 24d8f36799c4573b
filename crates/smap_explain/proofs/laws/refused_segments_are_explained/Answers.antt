use Rattle.smap_explain.proofs.FaultLaws.{faults_explained}
use Rattle.smap_explain.proofs.laws.refused_segments_are_explained.Goals as goal

pub returns : goal.returns
returns c = faults_explained
