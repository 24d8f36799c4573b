use Rattle.std.proofs.Common.{◌∙◌}
use Rattle.smap_trace.proofs.FrameSteps.{with_cr, cr_within, without_cr}
use Rattle.smap_trace.proofs.frames.frame_to_end.Goals as goal

pub frame_before-requires : goal.frame_before-requires
frame_before-requires c = cr_within c.args.line.now c.in-Some.body.now c.in-Some.ensures

pub returns-in-Some : goal.returns-in-Some
returns-in-Some c = c.frame_before.ensures ∙ with_cr c.args.line.now c.in-Some.body.now c.in-Some.ensures

pub returns-in-None : goal.returns-in-None
returns-in-None c = c.frame_before-in-None.ensures ∙ without_cr c.args.line.now c.in-None.ensures
