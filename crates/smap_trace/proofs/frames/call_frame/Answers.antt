use Rattle.std.proofs.Common.{sym, ◌∙◌}
use Rattle.smap_trace.proofs.FrameSteps.{called}
use Rattle.smap_trace.proofs.frames.call_frame.Goals as goal

pub frame_at-requires : goal.frame_at-requires
frame_at-requires c = (
  (called c.args.line.now c.args.start c.args.end c.in_ok-function.function.now _ c.requires.0 c.requires.1
      (sym c.is_empty.ensures ∙ c.if-is_empty.false) c.in_ok-function.ensures).0,
  c.requires.1,
)

pub returns : goal.returns
returns c =
    c.frame_at.ensures
    ∙ (called c.args.line.now c.args.start c.args.end c.in_ok-function.function.now _ c.requires.0 c.requires.1
    (sym c.is_empty.ensures ∙ c.if-is_empty.false) c.in_ok-function.ensures).1
