use Rattle.json.specs.Print.{escape_byte}
use Rattle.smap_printing.proofs.mappings.put_id_object.Goals as goal

pub returns : goal.returns
unfolding escape_byte
returns g c =
    let both = g.met.O.Output.puts_both in
    both _ _ _ _ _ (both _ _ _ _ _ c.put.ensures (both _ _ _ _ _ c.put_json_text.ensures c.put-2.ensures)) c.put-3.ensures
