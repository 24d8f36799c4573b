use Rattle.std.proofs.Common.{◌∷◌, subst, take}
use Rattle.std.specs.Prelude.{false}
use Rattle.std.specs.Str.{chars}
use Rattle.smap_printing.proofs.ContextLaws.{listed}
use Rattle.smap_text.specs.Lines.{lines_of}
use Rattle.smap_printing.proofs.context_form.put_lines.Goals as goal

pub returns-clause-lines : goal.returns-clause-lines
returns-clause-lines g c =
    let both = g.met.O.Output.puts_both in
    subst (λ l. g.O.Output.Puts c.args.output.now c.put-2.new.self (91 ∷ l)) (listed false (take c.args.most (lines_of (chars c.args.text.now))))
    (both _ _ _ _ _ c.put.ensures (both _ _ _ _ _ c.put_items-cut.ensures.lines c.put-2.ensures))
