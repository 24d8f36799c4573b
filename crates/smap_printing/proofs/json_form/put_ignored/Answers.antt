use Rattle.json.specs.Print.{escape_byte}
use Rattle.smap_printing.proofs.json_form.put_ignored.Goals as goal

pub returns : goal.returns
unfolding escape_byte
returns g c = g.met.O.Output.puts_both _ _ _ _ _ c.put.ensures (rw (c.bool_text.ensures, c.is_ignored.ensures) at c.put-2.ensures)
