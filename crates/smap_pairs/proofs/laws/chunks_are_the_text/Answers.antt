use Rattle.smap_pairs.specs.Laws.Chunks.{cuts_whole}
use Rattle.smap_pairs.proofs.laws.chunks_are_the_text.Goals as goal

pub returns : goal.returns
returns c = cuts_whole
