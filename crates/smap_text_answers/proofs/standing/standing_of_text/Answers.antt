use Rattle.std.proofs.Common.{◌∙◌}
use Rattle.std.specs.Prelude.{option_copied}
use Rattle.smap_text_answers.proofs.StandingLaws.{at_no_text, at_text}
use Rattle.smap_text_answers.proofs.standing.standing_of_text.Goals as goal

pub returns-in-Ok : goal.returns-in-Ok
returns-in-Ok c =
    c.standing_at.ensures ∙ at_text (option_copied c.args.base) c.args.url.now c.in-Ok.url.now c.in-Ok.ensures.cases.0 c.in-Ok.ensures.cases.1

pub returns-in-Err : goal.returns-in-Err
returns-in-Err c = at_no_text (option_copied c.args.base) c.args.url.now c.in-Err.ensures.cases.0
