use Rattle.std.proofs.Common.{◌≡◌, ℕ, true, false, Some, length, take, ap, sym, subst, ◌∙◌}
use Rattle.std.specs.Str.{bytes_eq}
use Rattle.std.proofs.lemmas.Bool.{both_ways}
use Rattle.smap_locations.specs.ByText.{value_under}
use Rattle.smap_locations.specs.ListLine.{is_folder}
use Rattle.smap_locations.specs.Patterns.{ends_in_separator}
use Rattle.smap_locations.specs.Private.Places.{ArePlaced}
use Rattle.smap_locations.proofs.BestLaws.{none_tried, tried_as}
use Rattle.smap_locations.proofs.PlaceLaws.{found_within, front_is}
use Rattle.smap_locations.proofs.patterns.Patterns.better_front.Goals as goal

pub returns-then-not-ends_in_separator : goal.returns-then-not-ends_in_separator
returns-then-not-ends_in_separator c =
    let text = c.args.text.now in
    let placed = subst (λ p. ArePlaced p c.self.inside.files c.self.inside.folders) c.self.view_is c.self.invariant in
    none_tried c.args.self.now c.args.url.now c.args.short.now c.args.best
    (λ place pattern. (is_folder pattern.1 ≡ true) × (bytes_eq (take (length pattern.0) text) pattern.0 ≡ true) × (length pattern.0 ≡ c.args.bytes)) c.requires
    (λ place pattern there has tried. absurd (both_ways (ends_in_separator pattern.0)
    (ap ends_in_separator (sym (front_is text c.split_at.result.0.now c.args.bytes c.split_at.ensures.front pattern tried.1 tried.2))
    ∙ sym c.ends_in_separator.ensures ∙ c.if-not-ends_in_separator.true)
    (placed.ends place pattern there tried.0)))

pub better-requires-clause-found : goal.better-requires-clause-found
better-requires-clause-found c place is =
    let placed = subst (λ p. ArePlaced p c.self.inside.files c.self.inside.folders) c.self.view_is c.self.invariant in
    found_within true c.args.self.now c.self.inside.folders placed.of_folders c.split_at.result.0.now place (sym c.get-place.ensures ∙ is)

pub returns : goal.returns
returns c =
    let text = c.args.text.now in
    let folders = c.self.inside.folders in
    let placed = subst (λ p. ArePlaced p c.self.inside.files folders) c.self.view_is c.self.invariant in
    tried_as c.args.self.now c.args.url.now c.args.short.now c.args.best c.better.result (λ place pattern. c.get-place.result ≡ Some place)
    (λ place pattern. (is_folder pattern.1 ≡ true) × (bytes_eq (take (length pattern.0) text) pattern.0 ≡ true) × (length pattern.0 ≡ c.args.bytes)) c.better.ensures
    (λ place pattern there has tried. c.get-place.ensures
    ∙ ap (λ t. value_under t folders) (front_is text c.split_at.result.0.now c.args.bytes c.split_at.ensures.front pattern tried.1 tried.2)
    ∙ placed.of_folders.all place pattern there tried.0)
