use Rattle.std.proofs.Common.{ap, subst, sym}
use Rattle.std.specs.List.{list_any}
use Rattle.serde_json.specs.Written.{compact_text}
use Rattle.smap_printing.specs.Context.{is_cut, lines_value}
use Rattle.smap_printing.proofs.ContextLaws.{none_taken}
use Rattle.smap_printing.proofs.context_form.put_behind.Goals as goal

pub returns-in-None-clause-lines : goal.returns-in-None-clause-lines
returns-in-None-clause-lines g c =
    rw c.in-None.is (subst (λ lines. g.O.Output.Puts c.args.output.now c.put.new.self (compact_text (lines_value lines))) (sym (none_taken c.args.most)) c.put.ensures)

pub returns-in-None-clause-cut : goal.returns-in-None-clause-cut
returns-in-None-clause-cut g c = rw c.in-None.is (ap (list_any is_cut) (sym (none_taken c.args.most)))
