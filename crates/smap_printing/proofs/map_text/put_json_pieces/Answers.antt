use Rattle.std.proofs.Common.{◌++◌, ◌∷◌, [], subst}
use Rattle.smap_printing.proofs.EscapeLaws.{escape_both}
use Rattle.smap_printing.proofs.map_text.put_json_pieces.Goals as goal

pub returns : goal.returns
returns g c =
    let both = g.met.O.Output.puts_both in
    let Puts = g.O.Output.Puts in
    let inner = subst (Puts c.put.new.self c.put-2.new.self) (escape_both c.args.first.now c.args.second.now (34 ∷ []))
    (both _ _ _ _ _ c.put_escaped.ensures (both _ _ _ _ _ c.put_escaped-2.ensures c.put-2.ensures)) in
    both _ _ _ _ _ c.put.ensures inner
