use Rattle.smap_printing.proofs.places.put_code_word.Goals as goal

pub returns-in-Some : goal.returns-in-Some
returns-in-Some g c =
    let label = rw (c.as_bytes.ensures.value, c.label.ensures) at c.put-in-Some.ensures in
    rw c.in-Some.is (g.met.O.Output.puts_both _ _ _ _ _ c.put.ensures label)
