use Rattle.smap_mappings.proofs.WritingLaws.{text_start}
use Rattle.smap_mappings.proofs.text_writer.TextWriter.with_capacity.Goals as goal

pub returns : goal.returns
returns c = text_start _ c.none.ensures c.in_ok-with_capacity.ensures.items
