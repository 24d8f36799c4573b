use Rattle.smap_record.proofs.WithinLaws.{answer_from_within}
use Rattle.smap_record.proofs.map_file.MapFile.look_up_from_among.Goals as goal

pub returns-clause-within : goal.returns-clause-within
returns-clause-within c = answer_from_within c.self.inside _ c.self.view_is c.self.invariant c.args.line c.args.column _ c.look_up_from_among.ensures.answer
