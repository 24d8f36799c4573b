use Rattle.std.proofs.Common.{ap, length, map, rules, tests, ◌∙◌}
use Rattle.std.proofs.lemmas.Iterator.{YieldsList-from_map, items_from_collect}
use Rattle.std.proofs.lemmas.Iterator.Consumers.{YieldsList-at, YieldsList-from_rest}
use Rattle.std.proofs.lemmas.Result.{IfOk-weaker}
use Rattle.smap_locations.proofs.EntryLaws.{same_lengths}
use Rattle.smap_locations.proofs.by_text.ByText.lengths.Goals as goal

pub returns : goal.returns
returns g c =
    IfOk-weaker c.collect.result _ _
    (λ lengths is. is ∙ same_lengths (λ k. k.items) c.self.inside.values.entries ∙ ap (λ t. map (λ pair. length pair.0) t) c.self.view_is)
    (items_from_collect c.collect.result c.collect.ensures.ran
    (YieldsList-from_map _ (λ text. length text.items)
    (YieldsList-at c.map.ensures.source (YieldsList-from_rest (map (λ e. e.0) c.self.inside.values.entries) c.keys.ensures.rest))
    c.map.ensures.closure (λ x r q k. search (rules, tests))))
