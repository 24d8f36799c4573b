use Rattle.smap_printing.proofs.text_form.put_source.Goals as goal

pub returns-in-None : goal.returns-in-None
returns-in-None g c = rw c.in-None.is (g.met.O.Output.puts_both _ _ _ _ _ (rw c.from.ensures at c.put_number.ensures) c.put.ensures)
