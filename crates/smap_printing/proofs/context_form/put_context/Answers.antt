use Rattle.smap_printing.proofs.context_form.put_context.Goals as goal

pub returns-in-Some : goal.returns-in-Some
returns-in-Some g c = rw c.in-Some.is c.put_source_context.ensures
