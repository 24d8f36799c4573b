use Rattle.smap_record.proofs.WithinLaws.{file_within}
use Rattle.smap_record.proofs.map_file.MapFile.mappings.Goals as goal

pub returns-clause-within : goal.returns-clause-within
returns-clause-within c = file_within c.self.inside _ c.self.view_is c.self.invariant
