use Rattle.smap_record.specs.MapFile.{IsAnswerWithin}
use Rattle.smap_compose.proofs.walk.looked_up.Goals as goal

pub returns-in-Found-clause-within : goal.returns-in-Found-clause-within
unfolding IsAnswerWithin
returns-in-Found-clause-within c = c.in-Found.ensures.within
