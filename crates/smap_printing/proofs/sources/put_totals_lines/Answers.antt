use Rattle.std.proofs.Common.{append_assoc}
use Rattle.smap_printing.proofs.sources.put_totals_lines.Goals as goal

pub returns : goal.returns
returns g c =
    let both = g.met.O.Output.puts_both in
    let total = both _ _ _ _ _ c.put_number-2.ensures c.put.ensures in
    simp append_assoc (both _ _ _ _ _ c.put_number.ensures total)
