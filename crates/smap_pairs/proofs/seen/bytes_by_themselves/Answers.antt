use Rattle.std.proofs.Common.{◌∙◌}
use Rattle.memchr.specs.Find.{is_byte3}
use Rattle.smap_pairs.proofs.ChunkLaws.{first_byte}
use Rattle.smap_pairs.proofs.seen.bytes_by_themselves.Goals as goal

pub returns-clause-bytes : goal.returns-clause-bytes
returns-clause-bytes c = c.unwrap_or.ensures ∙ first_byte (is_byte3 92 35 27) c.args.text.now c.memchr3.result c.memchr3.ensures
