use Rattle.smap_printing.proofs.mappings.put_mapping_line.Goals as goal

pub returns-in-None : goal.returns-in-None
returns-in-None g c =
    let both = g.met.O.Output.puts_both in
    let line = rw c.from_one.ensures at c.put_decimal.ensures in
    let column = rw c.from_one-2.ensures at c.put_number.ensures in
    rw c.in-None.is (both _ _ _ _ _ line (both _ _ _ _ _ column (both _ _ _ _ _ c.put.ensures (rw c.as_bytes.ensures.value at c.put-in-None.ensures))))

pub returns-in-Some : goal.returns-in-Some
returns-in-Some g c =
    let both = g.met.O.Output.puts_both in
    let line = rw c.from_one.ensures at c.put_decimal.ensures in
    let column = rw c.from_one-2.ensures at c.put_number.ensures in
    rw c.in-Some.is (both _ _ _ _ _ line (both _ _ _ _ _ column (both _ _ _ _ _ c.put.ensures c.put_origin_line.ensures)))
