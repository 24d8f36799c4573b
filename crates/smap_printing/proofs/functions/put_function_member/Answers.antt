use Rattle.smap_printing.proofs.functions.put_function_member.Goals as goal

pub returns-in-Some : goal.returns-in-Some
returns-in-Some g c = rw c.in-Some.is (g.met.O.Output.puts_both _ _ _ _ _ c.put.ensures c.put_json_pieces.ensures)
