use Rattle.json.specs.Print.{escape_byte}
use Rattle.smap_printing.proofs.json_form.put_end.Goals as goal

pub returns-in-Some : goal.returns-in-Some
unfolding escape_byte
returns-in-Some g c =
    let both = g.met.O.Output.puts_both in
    rw c.in-Some.is (both _ _ _ _ _ c.put-in-Some.ensures (both _ _ _ _ _ c.put_json_text.ensures c.put-in-Some-2.ensures))
