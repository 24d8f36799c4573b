use Rattle.std.proofs.Common.{sym, ap, subst, ◌∙◌}
use Rattle.smap_locations.specs.ByText.{IsWith, value_under}
use Rattle.smap_locations.proofs.EntryLaws.{pairs, with_more}
use Rattle.smap_locations.proofs.by_text.ByText.add.Goals as goal

pub returns-in-Ok-clause-added : goal.returns-in-Ok-clause-added
returns-in-Ok-clause-added g c =
    let text = c.args.text.items in
    let entries = c.self.inside.values.entries in
    let more = with_more (λ k. k.items) c.args.text c.args.value entries (ap (value_under text) c.self.view_is ∙ c.requires) in
    subst (λ o. IsWith o text c.args.value (pairs (λ k. k.items) c.insert.new.self.entries)) c.self.view_is
    (subst (λ n. IsWith (pairs (λ k. k.items) entries) text c.args.value (pairs (λ k. k.items) n)) (sym c.in-Ok.ensures.entries) more)
