use Rattle.std.proofs.Common.{◌≡◌, ◌+◌, ◌++◌, length, map, flat_map, sym, ap, ◌∙◌}
use Rattle.std.proofs.lemmas.List.{append-nil, drop_all}
use Rattle.smap_compose.specs.Composition.{names_within}
use Rattle.smap_compose.specs.Inners.{stated_inners}
use Rattle.smap_compose.specs.Private.Listing.{lent_text}
use Rattle.smap_compose.proofs.ListedLaws.{entries_counted, names_counted}
use Rattle.smap_compose.proofs.listed.all_names.Goals as goal

pub returns-clause-counted : goal.returns-clause-counted
returns-clause-counted c =
    let outer = c.args.outer.now.stated.names in
    let inners = c.args.inners.now in
    let made = map lent_text c.loop-inner.names.items in
    let are : made ≡ outer ++ flat_map names_within (stated_inners inners) =
    sym (append-nil made)
    ∙ ap (λ l. made ++ flat_map names_within (stated_inners l)) (sym (drop_all c.loop-inner.inner-index inners c.loop-inner-test.false))
    ∙ c.loop-inner.invariant.names in
    entries_counted lent_text c.loop-inner.names.items outer (flat_map names_within (stated_inners inners)) are
    ∙ ap (λ n. length outer + n) (names_counted (stated_inners inners))
