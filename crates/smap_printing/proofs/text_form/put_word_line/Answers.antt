use Rattle.smap_printing.proofs.text_form.put_word_line.Goals as goal

pub returns : goal.returns
returns g c = g.met.O.Output.puts_both _ _ _ _ _ c.put.ensures c.put_function_end.ensures
