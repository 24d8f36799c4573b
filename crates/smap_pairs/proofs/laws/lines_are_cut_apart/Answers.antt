use Rattle.smap_pairs.specs.Laws.Chunks.{lines_apart}
use Rattle.smap_pairs.proofs.laws.lines_are_cut_apart.Goals as goal

pub returns : goal.returns
returns c = lines_apart
