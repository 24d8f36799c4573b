use Rattle.smap_piecewise.proofs.WholeLaws.{all_done, begins_frames, begins_places}
use Rattle.smap_piecewise.proofs.laws.rewriting_comes_to_the_whole.Goals as goal

pub returns-clause-frames : goal.returns-clause-frames
returns-clause-frames c = begins_frames

pub returns-clause-places : goal.returns-clause-places
returns-clause-places c = begins_places

pub returns-clause-last : goal.returns-clause-last
returns-clause-last c = all_done
