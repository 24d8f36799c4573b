use Rattle.smap_record.proofs.WithinLaws.{answer_within}
use Rattle.smap_record.proofs.map_file.MapFile.look_up_among.Goals as goal

pub returns-clause-within : goal.returns-clause-within
returns-clause-within c = answer_within c.self.inside _ c.self.view_is c.self.invariant c.args.line c.args.column _ c.look_up_among.ensures.answer
