use Rattle.std.proofs.Common.{◌++◌, map, ap, ◌∙◌}
use Rattle.smap_compose.specs.Private.Listing.{lent_text}
use Rattle.smap_compose.proofs.ListedLaws.{entries_counted}
use Rattle.smap_compose.proofs.listed.joined_names.Goals as goal

pub returns-clause-names : goal.returns-clause-names
returns-clause-names c =
    let inner = c.args.inner.now.stated.names in
    c.in_ok-add_names-2.ensures
    ∙ ap (λ l. l ++ inner)
    (c.in_ok-add_names.ensures ∙ ap (λ l. map lent_text l ++ c.args.outer.now.stated.names) c.new-names.ensures.items)

pub returns-clause-counted : goal.returns-clause-counted
returns-clause-counted c =
    entries_counted lent_text _ c.args.outer.now.stated.names c.args.inner.now.stated.names (returns-clause-names c)
