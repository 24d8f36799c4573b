use Rattle.std.specs.Str.{chars}
use Rattle.smap_fit.proofs.StandingLaws.{started}
use Rattle.smap_fit.proofs.line_place.LinePlace.start.Goals as goal

pub returns-clause-left : goal.returns-clause-left
returns-clause-left c = started (chars c.args.line.now)
