use Rattle.std.proofs.Common.{◌∙◌, IfErr, IfOk, ap, subst}
use Rattle.smap_arguments.specs.Arguments.{ArgumentsAskFor, texts}
use Rattle.smap_arguments.specs.Refusals.{IsRefusalOf}
use Rattle.smap_arguments.specs.Spread.{read_arguments}
use Rattle.smap_arguments.proofs.parsing.parse.Goals as goal

pub returns-clause-asked : goal.returns-clause-asked
returns-clause-asked c = subst (λ words. IfOk c.parse_words.result (ArgumentsAskFor (read_arguments words)))
    (ap texts c.deref.ensures.value ∙ c.in_ok-words.ensures) c.parse_words.ensures.asked

pub returns-clause-refused : goal.returns-clause-refused
returns-clause-refused c = subst (λ words. IfErr c.parse_words.result (IsRefusalOf (read_arguments words)))
    (ap texts c.deref.ensures.value ∙ c.in_ok-words.ensures) c.parse_words.ensures.refused
