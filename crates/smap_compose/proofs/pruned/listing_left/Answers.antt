use Rattle.std.proofs.Common.{◌≡◌, length, refl, ap, ◌∙◌}
use Rattle.std.proofs.Math.Path.{fun_ext}
use Rattle.smap_compose.specs.Private.Left.{is_marked}
use Rattle.smap_compose.specs.Private.Used.{AreUsed}
use Rattle.smap_compose.proofs.PartsLaws.{left_at}
use Rattle.smap_compose.proofs.pruned.listing_left.Goals as goal

pub returns-clause-sources : goal.returns-clause-sources
returns-clause-sources c =
    let used : AreUsed (length c.args.sources.now) (length c.args.names.now) c.args.mappings.now c.in_ok-used.used = c.in_ok-used.ensures in
    let marks : c.deref.result.now ≡ c.in_ok-used.used.sources.items = c.deref.ensures.value in
    left_at (ap is_marked marks ∙ fun_ext used.sources_are) refl c.in_ok-sources_left.ensures

pub returns-clause-names : goal.returns-clause-names
returns-clause-names c =
    let used : AreUsed (length c.args.sources.now) (length c.args.names.now) c.args.mappings.now c.in_ok-used.used = c.in_ok-used.ensures in
    let marks : c.deref-2.result.now ≡ c.in_ok-used.used.names.items = c.deref-2.ensures.value in
    left_at (ap is_marked marks ∙ fun_ext used.names_are) refl c.in_ok-names_left.ensures
