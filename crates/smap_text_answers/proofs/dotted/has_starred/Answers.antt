use Rattle.std.proofs.Common.{◌∙◌}
use Rattle.smap_text_answers.specs.Dotted.{is_starred}
use Rattle.smap_text_answers.proofs.DottedLaws.{any_argument}
use Rattle.smap_text_answers.proofs.dotted.has_starred.Goals as goal

pub returns : goal.returns
returns c = c.is_any_starred.ensures ∙ any_argument is_starred c.args.arguments.now
