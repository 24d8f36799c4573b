use Rattle.std.proofs.Common.{◌∙◌}
use Rattle.memchr.specs.Find.{is_byte}
use Rattle.smap_pairs.proofs.ChunkLaws.{first_byte}
use Rattle.smap_pairs.proofs.chunk.line_bytes.Goals as goal

pub returns-clause-line : goal.returns-clause-line
returns-clause-line c = c.unwrap_or.ensures ∙ first_byte (is_byte 10) c.args.text.now c.memchr.result c.memchr.ensures
