use Rattle.smap_printing.proofs.sources.put_misfits_line.Goals as goal

pub returns : goal.returns
returns g c = g.met.O.Output.puts_both _ _ _ _ _ c.put_number.ensures c.put.ensures
