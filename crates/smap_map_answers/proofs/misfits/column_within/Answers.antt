use Rattle.std.proofs.Common.{arith}
use Rattle.smap_map_answers.proofs.MisfitLaws.{column_before, end_within}
use Rattle.smap_map_answers.proofs.misfits.column_within.Goals as goal

pub returns-then-end-from : goal.returns-then-end-from
returns-then-end-from c =
    end_within c.args.line.now c.units-end.result c.args.column c.units-end.ensures (omega (arith, c.if-end-from.true, c.from.ensures))

pub returns-else-end-from : goal.returns-else-end-from
returns-else-end-from c =
    column_before c.args.line.now c.units-end.result c.args.column c.units-end.ensures (omega (arith, c.if-end-from.false, c.from.ensures))
