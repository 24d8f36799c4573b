use Rattle.std.proofs.Common.{rules}
use Rattle.smap_pairs.proofs.MarksLaws.{countable}
use Rattle.smap_pairs.proofs.virtual_lines.lines_into.Goals as goal

pub ends_line_of_string-requires : goal.ends_line_of_string-requires
ends_line_of_string-requires c =
    countable c.args.line.now c.args.marks.now c.loop-mark.mark-index _ _ (search rules) c.requires c.loop-mark-test.true

pub unit_behind-unit-requires : goal.unit_behind-unit-requires
unit_behind-unit-requires c =
    countable c.args.line.now c.args.marks.now c.loop-mark.mark-index _ _ (search rules) c.requires c.loop-mark-test.true
