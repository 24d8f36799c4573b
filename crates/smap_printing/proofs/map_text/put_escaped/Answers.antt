use Rattle.std.proofs.Common.{sym, ◌∙◌, subst}
use Rattle.smap_printing.proofs.EscapeLaws.{plain_json}
use Rattle.smap_printing.proofs.map_text.put_escaped.Goals as goal

pub returns-then-not-has_escaped : goal.returns-then-not-has_escaped
returns-then-not-has_escaped g c =
    subst (λ l. g.O.Output.Puts c.args.output.now c.put.new.self l)
    (plain_json c.args.text.now (sym c.has_escaped.ensures ∙ c.if-not-has_escaped.true)) c.put.ensures
