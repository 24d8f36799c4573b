use Rattle.smap_piecewise.proofs.GivenLaws.{first_is}
use Rattle.smap_piecewise.proofs.given.first_line_in.Goals as goal

pub returns : goal.returns
returns c = first_is c.args.text.now c.first_line_of-line.result c.first_line_of-line.ensures
