use Rattle.std.proofs.Common.{◌++◌, List, [], append-nil, subst}
use Rattle.smap_printing.proofs.EscapeLaws.{shown_joined}
use Rattle.smap_printing.proofs.functions.put_function_suffix.Goals as goal

pub returns-in-Some : goal.returns-in-Some
returns-in-Some g c =
    let both = g.met.O.Output.puts_both in
    let Puts = g.O.Output.Puts in
    let joined = subst (Puts c.put.new.self c.put_shown_bytes-in-Some.new.output) (shown_joined c.in-Some.function.before.now c.in-Some.function.name.now)
    (both _ _ _ _ _ c.put_shown_bytes.ensures c.put_shown_bytes-in-Some.ensures) in
    rw c.in-Some.is (both _ _ _ _ _ c.put.ensures joined)
