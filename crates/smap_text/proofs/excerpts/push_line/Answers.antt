use Rattle.std.proofs.Common.{rules}
use borrow.Author.Tests.{tests}
use Rattle.std.proofs.lemmas.Iterator.{YieldsList-from_chars, YieldsList-from_map, YieldsList-from_take}
use Rattle.std.proofs.lemmas.Iterator.Adapters.{YieldsList-from_skip, items_from_extend}
use Rattle.std.proofs.lemmas.Iterator.Consumers.{YieldsList-at}
use Rattle.smap_text.specs.Excerpt.{shown_character}
use Rattle.smap_text.proofs.excerpts.push_line.Goals as goal

pub returns : goal.returns
returns c =
    items_from_extend c.extend.result c.extend.ensures.ran
    (YieldsList-from_map _ shown_character
    (YieldsList-at c.map.ensures.source (YieldsList-from_take 120
    (YieldsList-at c.take.ensures.source (YieldsList-from_skip c.args.first
    (YieldsList-at c.skip.ensures.source (YieldsList-from_chars c.args.line.now c.utf8.line c.chars.ensures.rest)) c.skip.ensures.count)) c.take.ensures.count))
    c.map.ensures.closure (λ x r q k. search (rules, tests)))
