use Rattle.std.proofs.Common.{List, Option, Some, ap, slice_set, ◌∙◌}
use Rattle.std.specs.Prelude.{option_map}
use Rattle.std.proofs.lemmas.List.{map-set}
use Rattle.smap_record.specs.MapFile.{Map}
use Rattle.smap_c.specs.Inners.{Places}
use Rattle.smap_c.specs.Private.Places.{places_seen}
use Rattle.smap_c.proofs.inners.Inners.put.Goals as goal

pub returns : goal.returns
returns c =
    let inside = c.self.inside in
    ap (λ (maps : List (Option Map)). record (places_seen inside) { maps = maps })
    (map-set (option_map (λ place. place.value)) inside.maps.items c.args.source (Some c.args.map))
    ∙ ap (λ (places : Places). record places { maps = slice_set places.maps c.args.source (Some c.args.map.value) }) c.self.view_is
