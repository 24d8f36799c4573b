use Rattle.smap_c.proofs.Refusals.{reads_back}
use Rattle.smap_c.proofs.refusal.numbers_of.Goals as goal

pub returns-clause-reads_back : goal.returns-clause-reads_back
returns-clause-reads_back c map build = rw c.own_numbers.ensures (reads_back c.args.refusal map build)
