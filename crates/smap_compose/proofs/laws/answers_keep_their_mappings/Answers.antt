use Rattle.smap_compose.proofs.FollowLaws.{answer_alike}
use Rattle.smap_compose.proofs.laws.answers_keep_their_mappings.Goals as goal

pub returns : goal.returns
returns c origin_of list line column = answer_alike origin_of line column list
