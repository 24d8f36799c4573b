use Rattle.std.proofs.Common.{arith}
use Rattle.smap_index.proofs.index.Index.look_up_from.Goals as goal

pub answer_after-requires-clause-holds : goal.answer_after-requires-clause-holds
answer_after-requires-clause-holds c = c.all_checkpoints.ensures.lines c.args.line c.args.line

pub returns-clause-compared : goal.returns-clause-compared
returns-clause-compared c b below = c.answer_after.ensures.compared b (omega (arith, c.all_checkpoints.ensures.marks))
