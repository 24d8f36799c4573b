use Rattle.std.proofs.Common.{sym, ◌∙◌}
use Rattle.smap_printing.proofs.places.put_unanswered.Goals as goal

pub returns-then-is_json : goal.returns-then-is_json
returns-then-is_json g c = rw (sym c.is_json.ensures ∙ c.if-is_json.true) (g.met.O.Output.puts_both _ _ _ _ _ c.put_unanswered_object.ensures c.put.ensures)
