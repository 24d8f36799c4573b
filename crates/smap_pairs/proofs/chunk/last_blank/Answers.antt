use Rattle.std.proofs.Common.{◌∙◌}
use Rattle.memchr.specs.Find.{is_byte}
use Rattle.smap_pairs.proofs.ChunkLaws.{last_byte}
use Rattle.smap_pairs.proofs.chunk.last_blank.Goals as goal

pub returns-clause-blank : goal.returns-clause-blank
returns-clause-blank c = c.unwrap_or.ensures ∙ last_byte (is_byte 32) c.args.text.now c.memrchr.result c.memrchr.ensures
