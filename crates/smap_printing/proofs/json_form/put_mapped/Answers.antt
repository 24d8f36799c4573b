use Rattle.json.specs.Print.{escape_byte}
use Rattle.smap_printing.proofs.json_form.put_mapped.Goals as goal

pub returns : goal.returns
unfolding escape_byte
returns g c =
    let both = g.met.O.Output.puts_both in
    let column = rw c.from_one.ensures at c.put_number.ensures in
    let line = rw c.from_one-2.ensures at c.put_number-2.ensures in
    let ignored = rw c.source-entry.ensures at c.put_ignored.ensures in
    let origin = rw (c.source-entry.ensures, c.name_at.ensures) at c.put_origin_members.ensures in
    both _ _ _ _ _ column (both _ _ _ _ _ line (both _ _ _ _ _ ignored origin))
