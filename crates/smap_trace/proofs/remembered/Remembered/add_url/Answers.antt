use Rattle.std.proofs.Common.{◌≡◌, subst, sym, true}
use Rattle.std.specs.List.{list_all}
use Rattle.smap_trace.specs.Private.Remembered.{is_answer}
use Rattle.smap_trace.proofs.RememberedLaws.{right_with_url}
use Rattle.smap_trace.proofs.remembered.Remembered.add_url.Goals as goal

pub returns-in-Ok-clause-right : goal.returns-in-Ok-clause-right
returns-in-Ok-clause-right c maps right =
    let mid = c.make_room.new.self in
    subst (λ urls. list_all (is_answer maps urls) mid.places.items ≡ true) (sym c.in-Ok.ensures.items)
    (right_with_url maps mid.urls.items c.in_ok-known.known mid.places.items (c.make_room.ensures maps right))
