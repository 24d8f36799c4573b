use Rattle.std.proofs.Common.{◌≡◌, length, arith, subst}
use Rattle.std.specs.List.{Contains}
use Rattle.smap_locations.proofs.PlaceLaws.{lengths_kept, lengths_more}
use Rattle.smap_locations.proofs.text_places.TextPlaces.add.Goals as goal
use Rattle.smap_locations.proofs.text_places.TextPlaces.add.Goals.{in-Ok, in-Err}

pub invariant_of-self-2 : goal.invariant_of-self-2
invariant_of-self-2 c =
    let now = c.add_length.new.lengths.items in
    let long : c.len.result ≡ length c.args.text.items = omega (arith, c.len.ensures, c.args.text.ok.0) in
    let own : Contains now (length c.args.text.items) = subst (λ n. Contains now n) long c.in_ok-add_length.ensures.has in
    elim c.match-add.branch [
      | in-Ok w ↦ lengths_more c.self.inside.places c.add.new.self c.args.text.items c.args.place c.self.inside.lengths.items now
          c.self.invariant c.in_ok-add_length.ensures.others own w.in-Ok.ensures.added
      | in-Err w ↦ lengths_kept c.self.inside.places c.add.new.self c.self.inside.lengths.items now c.self.invariant
          c.in_ok-add_length.ensures.others w.in-Err.ensures.kept
    ]
