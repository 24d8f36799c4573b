use Rattle.std.proofs.Common.{rules, tests}
use Rattle.std.proofs.lemmas.Iterator.Search.{position_from_yields_List}
use Rattle.std.proofs.lemmas.Iterator.Splits.{YieldsList-from_lines}
use Rattle.smap_text_answers.specs.Sources.{is_of_any_url}
use Rattle.smap_text_answers.proofs.sources.any_url_line.Goals as goal

pub returns-clause-first : goal.returns-clause-first
returns-clause-first c =
    position_from_yields_List is_of_any_url _ _ _ c.position.ensures.ran (YieldsList-from_lines c.args.text.now c.lines.ensures.rest)
    (λ x b q k. search (rules, tests))
