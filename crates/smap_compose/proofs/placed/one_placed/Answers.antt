use Rattle.std.proofs.Common.{refl, rules}
use Rattle.smap_compose.proofs.PlacedLaws.{one_listed}
use Rattle.smap_compose.proofs.placed.one_placed.Goals as goal

pub returns-clause-list : goal.returns-clause-list
returns-clause-list c =
    one_listed c.in_ok-maps.maps.items _ c.args.source _ _ (c.in_ok-maps.ensures.items_if_clones_equal (λ y is. search rules))
    c.in_ok-push.ensures.items (rw (c.sources.ensures, c.names.ensures) refl)
