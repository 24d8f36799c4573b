use Rattle.smap_printing.proofs.text_form.put_line_end.Goals as goal

pub returns : goal.returns
returns g c = g.met.O.Output.puts_both _ _ _ _ _ c.put_ignored_text.ensures c.put_function_end.ensures
