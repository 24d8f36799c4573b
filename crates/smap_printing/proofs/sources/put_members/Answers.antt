use Rattle.json.specs.Print.{escape_byte}
use Rattle.smap_printing.proofs.sources.put_members.Goals as goal

pub returns : goal.returns
unfolding escape_byte
returns g c =
    let both = g.met.O.Output.puts_both in
    let content = rw (c.bool_text.ensures, c.has_content.ensures) at c.put-2.ensures in
    let source = rw c.source_name.ensures at c.put_json_text.ensures in
    let index = rw c.from.ensures at c.put_number-2.ensures in
    both _ _ _ _ _ c.put.ensures (both _ _ _ _ _ content (both _ _ _ _ _ c.put_ignored.ensures (both _ _ _ _ _ c.put_number.ensures
    (both _ _ _ _ _ c.put-3.ensures (both _ _ _ _ _ source (both _ _ _ _ _ index c.put-4.ensures))))))
