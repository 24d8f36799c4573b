use Rattle.json.specs.Print.{escape_byte}
use Rattle.smap_printing.proofs.sources.put_totals_object.Goals as goal

pub returns : goal.returns
unfolding escape_byte
returns g c =
    let both = g.met.O.Output.puts_both in
    both _ _ _ _ _ (both _ _ _ _ _ c.put_number.ensures (both _ _ _ _ _ c.put_number-2.ensures c.put.ensures)) c.put-2.ensures
