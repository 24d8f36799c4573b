use Rattle.smap_resolve.proofs.PathPieceLaws.{goes_on_plainly}
use Rattle.smap_resolve.proofs.laws.paths_go_on_without_detours.Goals as goal

pub returns : goal.returns
returns c file text = goes_on_plainly file text
