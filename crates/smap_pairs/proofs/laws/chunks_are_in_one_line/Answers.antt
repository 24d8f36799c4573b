use Rattle.smap_pairs.specs.Laws.Chunks.{cuts_in_lines}
use Rattle.smap_pairs.proofs.laws.chunks_are_in_one_line.Goals as goal

pub returns : goal.returns
returns c = cuts_in_lines
