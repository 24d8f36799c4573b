use Rattle.std.proofs.Common.{◌∙◌}
use Rattle.memchr.specs.Find.{is_byte2}
use Rattle.smap_locations.proofs.QueryLaws.{first_byte}
use Rattle.smap_locations.proofs.paths.bytes_before_query.Goals as goal

pub returns-clause-count : goal.returns-clause-count
returns-clause-count c = c.unwrap_or.ensures ∙ first_byte (is_byte2 63 35) c.args.url.now c.memchr2.result c.memchr2.ensures
