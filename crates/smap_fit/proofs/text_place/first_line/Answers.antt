use Rattle.std.proofs.Common.{◌∙◌}
use Rattle.std.specs.Str.{chars}
use Rattle.smap_fit.proofs.PlaceLaws.{none_some, same_line}
use Rattle.smap_fit.proofs.text_place.first_line.Goals as goal

pub returns-in-Some : goal.returns-in-Some
returns-in-Some c = λ whole is. same_line (chars c.in-Some.line.now) whole (c.in-Some.ensures ∙ is)

pub returns-in-None : goal.returns-in-None
returns-in-None c = λ whole is. absurd (none_some whole (c.in-None.ensures ∙ is))
