use Rattle.std.proofs.Common.{ap, not, sym, ◌∙◌}
use Rattle.smap_trace.proofs.FrameSteps.{by_cr, no_end, no_line, whole_line}
use Rattle.smap_trace.proofs.frames.frame_of_line.Goals as goal

pub returns-in_err-frame : goal.returns-in_err-frame
returns-in_err-frame c = rw c.from_residual.ensures (no_end c.args.line.now c.in_err-frame.ensures)

pub returns-then-has_cr_within : goal.returns-then-has_cr_within
returns-then-has_cr_within c =
    sym (no_line c.args.line.now (by_cr c.args.line.now c.requires.one c.requires.short ∙ ap not (sym c.has_cr_within.ensures ∙ c.if-has_cr_within.true)))

pub returns-else-has_cr_within : goal.returns-else-has_cr_within
returns-else-has_cr_within c =
    c.in_ok-frame.ensures ∙ whole_line c.args.line.now
    (by_cr c.args.line.now c.requires.one c.requires.short ∙ ap not (sym c.has_cr_within.ensures ∙ c.if-has_cr_within.false))
