use Rattle.std.proofs.Common.{◌++◌, ◌∷◌, [], option_map, subst, sym}
use Rattle.smap_record.specs.Sources.{source_of}
use Rattle.smap_printing.proofs.SourceLaws.{row_text}
use Rattle.smap_printing.proofs.sources.put_row_object.Goals as goal

pub returns : goal.returns
returns g c =
    let both = g.met.O.Output.puts_both in
    subst (λ l. g.O.Output.Puts c.args.output.now c.put.new.self (l ++ 10 ∷ []))
    (sym (row_text c.args.row.now (option_map (λ entry. source_of entry.now) c.args.entry)))
    (both _ _ _ _ _ (both _ _ _ _ _ c.put_front.ensures c.put_members.ensures) c.put.ensures)
