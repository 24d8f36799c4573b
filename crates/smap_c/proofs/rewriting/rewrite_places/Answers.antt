use Rattle.std.proofs.Common.{Some, ap, refl}
use Rattle.std.proofs.lemmas.Result.{IfOk-weaker}
use Rattle.smap_c.proofs.TableLaws.{if_read, memory_ends, places_end, places_table}
use Rattle.smap_c.proofs.rewriting.rewrite_places.Goals as goal

pub returns : goal.returns
returns g c =
    let options = c.args.options.now in
    let result = c.rewrite_anywhere.result in
    let over = rw (c.in-Ok.ensures, c.exact.ensures, c.locations.ensures) at c.rewrite_anywhere.ensures.ends.whole in
    let front = rw (c.in-Ok.ensures, c.exact.ensures, c.locations.ensures) at c.rewrite_anywhere.ensures.ends.front in
    if_read _ _ (λ read at_first.
    places_end options c.args.table.now read c.rewrite_anywhere.new.output.bytes.items _ _ at_first (ap Some c.requires.empty.0) refl result
    c.requires.anywhere (IfOk-weaker result _ _ (λ summary is. places_table c.args.table.now _ _ _ _ summary _ _ (refl, refl) is) over) front)

pub returns-in_default : goal.returns-in_default
returns-in_default g c = memory_ends c.args.options.now c.args.table.now _ _ c.requires.empty.0
