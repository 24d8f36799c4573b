use Rattle.smap_printing.proofs.functions.put_function_end.Goals as goal

pub returns : goal.returns
returns g c = g.met.O.Output.puts_both _ _ _ _ _ c.put_function_suffix.ensures c.put.ensures
