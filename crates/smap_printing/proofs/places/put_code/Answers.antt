use Rattle.smap_printing.proofs.places.put_code.Goals as goal

pub returns-in-Some : goal.returns-in-Some
returns-in-Some g c =
    rw c.in-Some.is (g.met.O.Output.puts_both _ _ _ _ _ c.put.ensures (rw c.label.ensures at c.put_json_text.ensures))
