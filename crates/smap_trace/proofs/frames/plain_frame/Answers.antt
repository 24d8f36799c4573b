use Rattle.std.proofs.Common.{ap, ◌∙◌}
use Rattle.smap_trace.specs.FrameOf.{unless_async}
use Rattle.smap_trace.proofs.FrameSteps.{after_async}
use Rattle.smap_trace.proofs.frames.plain_frame.Goals as goal

pub returns-then-starts_with : goal.returns-then-starts_with
returns-then-starts_with c =
    c.unless_async.ensures ∙ ap unless_async c.frame_at.ensures
    ∙ after_async c.args.line.now c.args.start c.args.end c.starts_with.result c.requires.0 c.requires.1 c.starts_with.ensures.value c.if-starts_with.true
