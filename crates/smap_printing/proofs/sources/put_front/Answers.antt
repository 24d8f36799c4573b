use Rattle.smap_printing.proofs.sources.put_front.Goals as goal

pub returns-in-Some : goal.returns-in-Some
returns-in-Some g c = rw c.in-Some.is (g.met.O.Output.puts_both _ _ _ _ _ c.put_number.ensures c.put.ensures)
