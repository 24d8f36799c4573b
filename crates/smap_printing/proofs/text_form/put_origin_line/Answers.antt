use Rattle.smap_printing.proofs.text_form.put_origin_line.Goals as goal

pub returns : goal.returns
returns g c =
    let both = g.met.O.Output.puts_both in
    let line = rw c.from_one.ensures at c.put_number.ensures in
    let column = rw c.from_one-2.ensures at c.put_number-2.ensures in
    let name = rw c.name_at.ensures at c.put_name.ensures in
    let end = rw (c.is_ignored.ensures, c.source.ensures) at c.put_line_end.ensures in
    both _ _ _ _ _ c.put_source_at.ensures (both _ _ _ _ _ line (both _ _ _ _ _ column (both _ _ _ _ _ name end)))
