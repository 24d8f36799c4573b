use Rattle.json.specs.Print.{escape_byte}
use Rattle.smap_printing.proofs.json_form.put_origin_members.Goals as goal

pub returns : goal.returns
unfolding escape_byte
returns g c =
    let both = g.met.O.Output.puts_both in
    let column = rw c.from_one.ensures at c.put_number.ensures in
    let line = rw c.from_one-2.ensures at c.put_number-2.ensures in
    let source = rw c.source_name.ensures at c.put_json_text-2.ensures in
    let index = rw c.from.ensures at c.put_number-3.ensures in
    both _ _ _ _ _ c.put.ensures (both _ _ _ _ _ c.put_json_text.ensures (both _ _ _ _ _ column (both _ _ _ _ _ line
    (both _ _ _ _ _ c.put-2.ensures (both _ _ _ _ _ source (both _ _ _ _ _ index c.put_end.ensures))))))
