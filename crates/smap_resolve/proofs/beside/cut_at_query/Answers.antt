use Rattle.std.proofs.Common.{length, ap, subst, sym, ◌∙◌}
use Rattle.std.specs.Str.{IsCharBoundary}
use Rattle.smap_locations.specs.Paths.{without_query}
use Rattle.smap_resolve.proofs.BesideLaws.{ends_at_boundary}
use Rattle.smap_resolve.proofs.beside.cut_at_query.Goals as goal

pub range-requires-clause-end_boundary : goal.range-requires-clause-end_boundary
range-requires-clause-end_boundary c =
    subst (IsCharBoundary c.args.name.now) (sym (ap length (c.without_query-cut.ensures ∙ ap without_query c.as_bytes.ensures.value)))
    (ends_at_boundary c.args.name.now)

pub range_from-requires : goal.range_from-requires
range_from-requires c = λ some.
    subst (IsCharBoundary c.args.name.now) (sym (ap length (c.without_query-cut.ensures ∙ ap without_query c.as_bytes.ensures.value)))
    (ends_at_boundary c.args.name.now)
