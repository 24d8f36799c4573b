use Rattle.std.proofs.Common.{ap, arith, ◌∙◌, ◌≤◌, length}
use Rattle.std.proofs.lemmas.List.{take_all}
use Rattle.smap_c.specs.Inners.{Places, maps_held, stated_maps}
use Rattle.smap_c.proofs.inners.Inners.maps.Goals as goal

pub returns : goal.returns
returns c =
    let places = c.deref-place-items.result.now in
    let past : length places ≤ c.loop-place.place-index = omega arith in
    c.loop-place.invariant
    ∙ ap (λ held. stated_maps (maps_held held)) (take_all c.loop-place.place-index places past)
    ∙ ap (λ held. stated_maps (maps_held held)) c.deref-place-items.ensures.value
    ∙ ap (λ (places : Places). stated_maps places.maps) c.self.view_is
