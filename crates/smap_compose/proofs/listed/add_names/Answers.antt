use Rattle.std.specs.Borrow.{Bor}
use Rattle.std.proofs.Common.{◌<◌, ◌∷◌, [], ℕ, List, length, map, sym, ap, ◌∙◌, arith, Vec, Global}
use Rattle.std.proofs.lemmas.List.{map-append}
use Rattle.smap_compose.specs.Private.Listing.{lent_text}
use Rattle.smap_mappings.specs.Laws.Lists.{none_past}
use Rattle.smap_compose.proofs.ListLaws.{copied_next}
use Rattle.smap_compose.proofs.listed.add_names.Goals as goal
use Rattle.smap_compose.proofs.listed.add_names.Goals.{in-Some+in_ok-push, in_default}

pub loop-i-preserved : goal.loop-i-preserved
loop-i-preserved c =
    let names = c.args.map_file.now.stated.names in
    let so_far = c.loop-i.names.items in
    let inside : c.loop-i.i < length names = omega (arith, c.loop-i-test.true, c.names-i-end.ensures) in
    elim c.match-name.branch [
      | in-Some+in_ok-push w ↦
          ap (λ (v : Vec (Bor (List ℕ)) Global). map lent_text v.items) w.names-is
          ∙ ap (map lent_text) w.in_ok-push.ensures.items
          ∙ map-append lent_text so_far (w.in-Some.name ∷ [])
          ∙ copied_next (map lent_text c.args.names.now.items) names (map lent_text so_far) c.loop-i.i w.in-Some.name.now
          c.loop-i.invariant (sym w.in-Some.ensures)
      | in_default w ↦ absurd (none_past names c.loop-i.i (sym w.in_default.ensures) inside)
    ]
