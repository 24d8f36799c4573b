use Rattle.std.proofs.Common.{◌≡◌, ℕ, true, false, Some, length, subst, ◌∙◌}
use Rattle.smap_locations.specs.ListLine.{is_folder}
use Rattle.smap_locations.specs.Patterns.{has_ending}
use Rattle.smap_locations.specs.Private.Places.{ArePlaced}
use Rattle.smap_locations.proofs.BestLaws.{tried_as}
use Rattle.smap_locations.proofs.PlaceLaws.{end_found}
use Rattle.smap_locations.proofs.patterns.Patterns.better_end.Goals as goal

pub returns : goal.returns
returns c =
    let files = c.self.inside.files in
    let placed = subst (λ p. ArePlaced p files c.self.inside.folders) c.self.view_is c.self.invariant in
    tried_as c.args.self.now c.args.url.now c.args.short.now c.args.best c.better.result (λ place pattern. c.get-place.result ≡ Some place)
    (λ place pattern. (is_folder pattern.1 ≡ false) × (has_ending pattern.0 c.args.text.now ≡ true) × (length pattern.0 ≡ c.args.bytes)) c.better.ensures
    (λ place pattern there has tried. c.get-place.ensures
    ∙ end_found c.args.self.now files placed.of_files c.args.text.now c.split_at.result.1.now c.args.bytes c.split_at.ensures.back place pattern there
    tried.0 tried.1 tried.2)
