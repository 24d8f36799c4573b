use Rattle.std.proofs.Common.{List, None, Option, ap, slice_set, ◌∙◌}
use Rattle.std.specs.Prelude.{option_map}
use Rattle.std.proofs.lemmas.List.{map-set}
use Rattle.smap_record.specs.MapFile.{Map}
use Rattle.smap_c.specs.Inners.{Places, maps_held}
use Rattle.smap_c.specs.Private.Places.{places_seen}
use Rattle.smap_c.proofs.inners.Inners.take.Goals as goal

pub returns-clause-left : goal.returns-clause-left
returns-clause-left c =
    let inside = c.self.inside in
    let items = inside.maps.items in
    ap (λ (maps : List (Option Map)). record (places_seen inside) { maps = maps })
    (map-set (option_map (λ place. place.value)) items c.args.source c.take.new.self
    ∙ ap (λ place. slice_set (maps_held items) c.args.source (option_map (λ held. held.value) place)) c.take.ensures.after)
    ∙ ap (λ (places : Places). record places { maps = slice_set places.maps c.args.source None }) c.self.view_is
