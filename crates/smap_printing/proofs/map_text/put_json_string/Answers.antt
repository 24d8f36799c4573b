use Rattle.smap_printing.proofs.map_text.put_json_string.Goals as goal

pub returns : goal.returns
returns g c =
    let both = g.met.O.Output.puts_both in
    both _ _ _ _ _ c.put.ensures (both _ _ _ _ _ c.put_escaped.ensures c.put-2.ensures)
