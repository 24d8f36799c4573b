use Rattle.smap_printing.proofs.json_form.put_lines.Goals as goal

pub returns : goal.returns
returns g c =
    let both = g.met.O.Output.puts_both in
    let line = rw c.lines_of.ensures.line at c.put_json_text.ensures in
    let caret = rw c.lines_of.ensures.caret at c.put_json_text-2.ensures in
    both _ _ _ _ _ c.put.ensures (both _ _ _ _ _ line (both _ _ _ _ _ c.put-2.ensures (both _ _ _ _ _ caret c.put-3.ensures)))
