use Rattle.std.proofs.Common.{sym, ◌∙◌}
use Rattle.smap_trace.proofs.FrameLaws.{parts_are_frame, frame_has_parts}
use Rattle.smap_trace.proofs.FrameSteps.{more_lines, no_line, one_line}
use Rattle.smap_trace.proofs.frames.frame.Goals as goal

pub frame_of_line-requires-clause-one : goal.frame_of_line-requires-clause-one
frame_of_line-requires-clause-one c = (one_line c.args.line.now (sym c.is_one_line.ensures ∙ c.if-is_one_line.true)).0

pub frame_of_line-requires-clause-short : goal.frame_of_line-requires-clause-short
frame_of_line-requires-clause-short c = (one_line c.args.line.now (sym c.is_one_line.ensures ∙ c.if-is_one_line.true)).1

pub returns-then-is_one_line : goal.returns-then-is_one_line
returns-then-is_one_line c = record {
  parts = c.frame_of_line.ensures;
  frame = λ parts. (parts_are_frame c.args.line.now parts, frame_has_parts c.args.line.now parts);
}

pub returns-else-is_one_line : goal.returns-else-is_one_line
returns-else-is_one_line c = record {
  parts = sym (no_line c.args.line.now (more_lines c.args.line.now (sym c.is_one_line.ensures ∙ c.if-is_one_line.false)));
  frame = λ parts. (parts_are_frame c.args.line.now parts, frame_has_parts c.args.line.now parts);
}
