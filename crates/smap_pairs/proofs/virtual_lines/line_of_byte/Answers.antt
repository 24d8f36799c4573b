use Rattle.smap_pairs.proofs.MarksLaws.{line_goes_on, line_is, line_is_none}
use Rattle.smap_pairs.proofs.virtual_lines.line_of_byte.Goals as goal

pub loop-index-preserved : goal.loop-index-preserved
loop-index-preserved c = line_goes_on c.args.lines.now c.args.place c.loop-index.index _ c.loop-index-test.true c.if-lines-index.true c.loop-index.invariant

pub returns-else-lines-index : goal.returns-else-lines-index
returns-else-lines-index c = line_is c.args.lines.now c.args.place c.loop-index.index _ c.loop-index-test.true c.if-lines-index.false c.loop-index.invariant

pub returns-after-loop-index : goal.returns-after-loop-index
returns-after-loop-index c = line_is_none c.args.lines.now c.args.place c.loop-index.index c.loop-index-test.false c.loop-index.invariant
