use Rattle.std.proofs.Common.{◌∙◌}
use Rattle.smap_text_answers.specs.Dotted.{is_dotted}
use Rattle.smap_text_answers.proofs.DottedLaws.{any_argument}
use Rattle.smap_text_answers.proofs.dotted.has_dotted.Goals as goal

pub returns : goal.returns
returns c = c.is_any_dotted.ensures ∙ any_argument is_dotted c.args.arguments.now
