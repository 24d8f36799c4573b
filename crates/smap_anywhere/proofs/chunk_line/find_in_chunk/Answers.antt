use Rattle.std.proofs.Common.{length}
use Rattle.smap_anywhere.proofs.LineOfLaws.{spans_in_more}
use Rattle.smap_anywhere.proofs.chunk_line.find_in_chunk.Goals as goal

pub returns-clause-order : goal.returns-clause-order
returns-clause-order g c =
    spans_in_more 0 (length c.line_of-line.result.now) (length c.args.chunk.now) c.find.new.places.places c.line_of-line.ensures.within c.find.ensures.order
