use Rattle.std.proofs.Common.{None, ◌++◌, map, ap, ◌∙◌}
use Rattle.smap_compose.specs.Composition.{source_from}
use Rattle.smap_compose.specs.Private.Listing.{lent_source}
use Rattle.smap_compose.proofs.ListedLaws.{called_alike, entries_counted}
use Rattle.smap_compose.proofs.listed.joined_sources.Goals as goal

pub returns-clause-sources : goal.returns-clause-sources
returns-clause-sources c =
    let outer = c.args.outer.now.stated.sources in
    let inner = c.args.inner.now.stated.sources in
    c.in_ok-add_sources-2.ensures
    ∙ ap (λ l. l ++ map (source_from None) inner)
    (c.in_ok-add_sources.ensures ∙ ap (λ l. map lent_source l ++ map (source_from None) outer) c.new-sources.ensures.items ∙ called_alike outer)
    ∙ ap (λ l. outer ++ l) (called_alike inner)

pub returns-clause-counted : goal.returns-clause-counted
returns-clause-counted c =
    entries_counted lent_source _ c.args.outer.now.stated.sources c.args.inner.now.stated.sources (returns-clause-sources c)
