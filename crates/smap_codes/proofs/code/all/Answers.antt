use Rattle.smap_codes.specs.Codes.{all_codes}
use Rattle.smap_codes.proofs.AllLaws.{each_code}
use Rattle.smap_codes.proofs.code.all.Goals as goal

pub returns-clause-each : goal.returns-clause-each
unfolding all_codes
returns-clause-each c = each_code
