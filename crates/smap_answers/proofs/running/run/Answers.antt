use Rattle.smap_answers.proofs.running.run.Goals as goal

pub returns : goal.returns
returns g c = (c.run_told.new.first, c.run_told.ensures)
