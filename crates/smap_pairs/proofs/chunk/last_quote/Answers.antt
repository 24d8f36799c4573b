use Rattle.std.proofs.Common.{◌∙◌}
use Rattle.memchr.specs.Find.{is_byte}
use Rattle.smap_pairs.proofs.ChunkLaws.{last_byte}
use Rattle.smap_pairs.proofs.chunk.last_quote.Goals as goal

pub returns-clause-quote : goal.returns-clause-quote
returns-clause-quote c = c.unwrap_or.ensures ∙ last_byte (is_byte 34) c.args.text.now c.memrchr.result c.memrchr.ensures
