use Rattle.std.proofs.Common.{rules, tests}
use Rattle.std.specs.Str.{bytes_eq}
use Rattle.std.proofs.lemmas.Iterator.Search.{any_from_yields_List}
use Rattle.std.proofs.lemmas.Iterator.Splits.{YieldsList-from_lines}
use Rattle.smap_text_answers.proofs.told.has_line.Goals as goal

pub returns : goal.returns
returns c =
    any_from_yields_List (λ other. bytes_eq other c.args.line.now) _ _ _ c.any.ensures.ran (YieldsList-from_lines c.args.text.now c.lines.ensures.rest)
    (λ x b q k. search (rules, tests))
