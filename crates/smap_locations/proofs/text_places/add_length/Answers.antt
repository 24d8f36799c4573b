use Rattle.std.proofs.Common.{◌≤◌, length, arith, sym, subst}
use Rattle.std.specs.List.{Contains}
use Rattle.smap_locations.proofs.PlaceLaws.{insert_kept}
use Rattle.smap_locations.proofs.text_places.add_length.Goals as goal

pub returns-in-Ok-insert-clause-others : goal.returns-in-Ok-insert-clause-others
returns-in-Ok-insert-clause-others c other within =
    let few : c.in-Err.place ≤ length c.args.lengths.now.items = omega (arith, c.in-Err.ensures.bound, c.deref.ensures.len) in
    subst (λ l. Contains l other) (sym c.in-Ok-insert.ensures.items)
    (insert_kept c.args.lengths.now.items c.in-Err.place c.args.length other few within)
