use Rattle.smap_map_answers.proofs.fit.misfits_line.Goals as goal

pub returns : goal.returns
returns c = rw (← c.in_ok-map.ensures, ← c.in_ok-generated.ensures, ← c.in_ok-of.ensures.ok) c.format-2.ensures.ok
