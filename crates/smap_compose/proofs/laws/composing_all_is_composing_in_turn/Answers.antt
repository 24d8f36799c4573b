use Rattle.smap_compose.proofs.InTurnLaws.{all_in_turn}
use Rattle.smap_compose.proofs.laws.composing_all_is_composing_in_turn.Goals as goal

pub returns : goal.returns
returns c outer inners few = all_in_turn outer inners few
