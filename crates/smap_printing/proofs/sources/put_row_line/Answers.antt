use Rattle.smap_printing.proofs.sources.put_row_line.Goals as goal

pub returns : goal.returns
returns g c =
    let both = g.met.O.Output.puts_both in
    let index = rw c.from.ensures at c.put_decimal.ensures in
    let source = rw c.source_name.ensures at c.put_source.ensures in
    let ignored = rw (c.ignored_text.ensures, c.is_ignored.ensures) at c.put-2.ensures in
    let content = rw (c.no_content_text.ensures, c.has_content.ensures) at c.put-3.ensures in
    both _ _ _ _ _ index (both _ _ _ _ _ c.put_number.ensures (both _ _ _ _ _ c.put_bytes.ensures (both _ _ _ _ _ c.put.ensures
    (both _ _ _ _ _ source (both _ _ _ _ _ ignored (both _ _ _ _ _ content c.put-4.ensures))))))
